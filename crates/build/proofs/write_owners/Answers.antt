-- `write_owners`: polygon after polygon from the front, and zeros after the last. Assumes nothing.
use mathlib.Core.List.{List}
use mathlib.Core.Path.{◌≡◌, refl, sym, ap, ◌∙◌}
use Prim.Native.Nat.{ℕ}
use native.Mathlib.Numerals.{add-one}
use native.Mathlib.Omega.{arith}
use lib.Seq.{sets}
use lib.ListN.{replicate, length-replicate, length}
use Rattle.lists.proofs.Sums.{sum_to_step}
use Rattle.lists.specs.Lists.{joined}
use Rattle.build.specs.Stored.{first_in, len_in, owners_table}
use Rattle.build.proofs.Writing.{blocks_length, next_block, cleared, filled}
use Rattle.build.proofs.write_owners.Goals as goal

pub offset_bounds-owners-first : goal.offset_bounds-owners-first
offset_bounds-owners-first c = omega (arith, sum_to_step (len_in c.args.lens.now) c.loop-k.k (length c.args.lens.now) (omega arith), c.requires.1)

pub slice_bounds-fill-end : goal.slice_bounds-fill-end
slice_bounds-fill-end c = omega (arith, sum_to_step (len_in c.args.lens.now) c.loop-k.k (length c.args.lens.now) (omega arith), c.requires.1)

pub overflow_add-end : goal.overflow_add-end
overflow_add-end c = omega (arith, sum_to_step (len_in c.args.lens.now) c.loop-k.k (length c.args.lens.now) (omega arith), c.requires.1)

pub loop-k-preserved : goal.loop-k-preserved
loop-k-preserved c =
    let f : ℕ → List ℕ = λ j. replicate (len_in c.args.lens.now j) j in
    let e : length (joined f c.loop-k.k) ≡ first_in c.args.lens.now c.loop-k.k = blocks_length f (len_in c.args.lens.now) c.loop-k.k (λ j h. length-replicate (len_in c.args.lens.now j) j) in (
      rw (add-one c.loop-k.k) (omega (arith, c.loop-k.invariant.0)),
      next_block c.args.owners.now f c.loop-k.k c.loop-k.first c.loop-k.owners _ (replicate (len_in c.args.lens.now c.loop-k.k) c.loop-k.k) c.loop-k.invariant.1 (filled c.loop-k.owners _ c.loop-k.first _ (len_in c.args.lens.now c.loop-k.k) c.loop-k.k refl (omega (arith, sum_to_step (len_in c.args.lens.now) c.loop-k.k (length c.args.lens.now) (omega arith), c.requires.1)) (c.fill.ensures.after (λ y q. q))) refl (c.loop-k.invariant.0 ∙ sym e),
    )

pub returns : goal.returns
unfolding owners_table
returns c =
    let f : ℕ → List ℕ = λ j. replicate (len_in c.args.lens.now j) j in
    let k : c.loop-k.k ≡ length c.args.lens.now = omega arith in
    let e : length (joined f (length c.args.lens.now)) ≡ first_in c.args.lens.now (length c.args.lens.now) = blocks_length f (len_in c.args.lens.now) (length c.args.lens.now) (λ j h. length-replicate (len_in c.args.lens.now j) j) in
    cleared 0 c.args.owners.now (joined f (length c.args.lens.now)) c.loop-k.first c.loop-k.owners _ (c.loop-k.invariant.1 ∙ ap (λ (n : ℕ). sets c.args.owners.now 0 (joined f n)) k) c.clear_from.ensures (c.loop-k.invariant.0 ∙ ap (first_in c.args.lens.now) k ∙ sym e) (omega (arith, c.requires.1))

-- `write_polygons`: two numbers a turn, first and len, and zeros after the last. Assumes nothing.
use mathlib.Core.List.{List, [], ◌∷◌}
use mathlib.Core.Path.{◌≡◌, refl, ap, ◌∙◌}
use Prim.Native.Nat.{ℕ, ◌+◌, ◌*◌}
use native.Mathlib.Numerals.{add-one}
use native.Mathlib.Omega.{arith}
use lib.ListN.{set, length}
use lib.Seq.{sets}
use Rattle.lists.proofs.Sums.{sum_to_step, sum_to_const}
use Rattle.lists.specs.Lists.{joined}
use Rattle.build.specs.Stored.{polygons_table, first_in, len_in}
use Rattle.build.proofs.Writing.{blocks_length, next_block, two_stores, cleared}
use Rattle.build.proofs.write_polygons.Goals as goal

pub overflow_add-first : goal.overflow_add-first
overflow_add-first c = omega (arith, sum_to_step (len_in c.args.lens.now) c.loop-k.k (length c.args.lens.now) (omega arith), c.loop-k.invariant.0, c.requires.0)

pub loop-k-preserved : goal.loop-k-preserved
loop-k-preserved c =
    let f : ℕ → List ℕ = λ j. first_in c.args.lens.now j ∷ len_in c.args.lens.now j ∷ [] in
    let e : length (joined f c.loop-k.k) ≡ c.loop-k.k * 2 = blocks_length f (λ _. 2) c.loop-k.k (λ k h. refl) ∙ sum_to_const 2 c.loop-k.k in (
      rw (add-one c.loop-k.k) (omega (arith, c.loop-k.invariant.0)),
      next_block c.args.polygons.now f c.loop-k.k (2 * c.loop-k.k) c.loop-k.polygons _ (c.loop-k.first ∷ (len_in c.args.lens.now c.loop-k.k) ∷ []) c.loop-k.invariant.1 (c.put-in-loop-k.ensures ∙ ap (λ (z : List ℕ). set z (2 * c.loop-k.k + 1) (len_in c.args.lens.now c.loop-k.k)) c.put.ensures ∙ two_stores c.loop-k.polygons (2 * c.loop-k.k) c.loop-k.first (len_in c.args.lens.now c.loop-k.k)) (rw (c.loop-k.invariant.0)) (omega arith),
    )

pub returns : goal.returns
unfolding polygons_table
returns c =
    let f : ℕ → List ℕ = λ j. first_in c.args.lens.now j ∷ len_in c.args.lens.now j ∷ [] in
    let k : c.loop-k.k ≡ length c.args.lens.now = omega arith in
    let e : length (joined f (length c.args.lens.now)) ≡ length c.args.lens.now * 2 = blocks_length f (λ _. 2) (length c.args.lens.now) (λ k h. refl) ∙ sum_to_const 2 (length c.args.lens.now) in
    cleared 0 c.args.polygons.now (joined f (length c.args.lens.now)) (2 * length c.args.lens.now) c.loop-k.polygons _ (c.loop-k.invariant.1 ∙ ap (λ (n : ℕ). sets c.args.polygons.now 0 (joined f n)) k) c.clear_from.ensures (omega arith) (omega (arith, c.requires.1))

-- `write_points`: polygon after polygon from the front, and zeros after the last. Assumes nothing.
use mathlib.Core.Path.{◌≡◌, refl, ap, ◌∙◌}
use Prim.Native.Nat.{ℕ, ◌*◌}
use native.Mathlib.Numerals.{add-one}
use native.Mathlib.Omega.{arith}
use lib.Seq.{sets}
use lib.ListN.{length}
use Rattle.lists.specs.Lists.{joined}
use Rattle.num.specs.Ops.{zero_f}
use Rattle.build.specs.Stored.{first_in, ordered_at, stored_of, points_of}
use Rattle.build.proofs.Writing.{next_block, cleared}
use Rattle.build.proofs.Orders.{held, held_is, stored_is, points_length}
use Rattle.build.proofs.write_points.Goals as goal

pub is_reversed-reversed-requires : goal.is_reversed-reversed-requires
is_reversed-reversed-requires c = held_is c.args.given.now c.args.lens.now c.loop-len.len-index c.loop-len.first _ c.loop-len.invariant.0 refl c.requires.0 (omega arith)

pub write_ordered-requires : goal.write_ordered-requires
write_ordered-requires c = held_is c.args.given.now c.args.lens.now c.loop-len.len-index c.loop-len.first _ c.loop-len.invariant.0 refl c.requires.0 (omega arith)

pub overflow_add-first : goal.overflow_add-first
overflow_add-first c = omega (arith, held c.args.given.now c.args.lens.now c.loop-len.len-index c.requires.0 (omega arith))

pub loop-len-preserved : goal.loop-len-preserved
loop-len-preserved c =
    let e : length (joined (stored_of c.args.given.now c.args.lens.now) c.loop-len.len-index) ≡ 2 * first_in c.args.lens.now c.loop-len.len-index = points_length c.args.given.now c.args.lens.now c.loop-len.len-index c.requires.0 (omega arith) in (
      rw (add-one c.loop-len.len-index) (omega (arith, c.loop-len.invariant.0)),
      next_block c.args.points.now (stored_of c.args.given.now c.args.lens.now) c.loop-len.len-index (2 * c.loop-len.first) c.loop-len.points _ (ordered_at c.is_reversed-reversed.result c.args.given.now c.loop-len.first _) c.loop-len.invariant.1 c.write_ordered.ensures (stored_is c.args.given.now c.args.lens.now c.loop-len.len-index c.loop-len.first _ c.loop-len.invariant.0 refl c.is_reversed-reversed.result c.is_reversed-reversed.ensures) (omega arith),
    )

pub returns : goal.returns
unfolding points_of
returns c =
    let k : c.loop-len.len-index ≡ length c.args.lens.now = omega arith in
    let e : length (joined (stored_of c.args.given.now c.args.lens.now) (length c.args.lens.now)) ≡ 2 * first_in c.args.lens.now (length c.args.lens.now) = points_length c.args.given.now c.args.lens.now (length c.args.lens.now) c.requires.0 (omega arith) in
    cleared zero_f c.args.points.now (joined (stored_of c.args.given.now c.args.lens.now) (length c.args.lens.now)) (length c.args.given.now) c.loop-len.points _ (c.loop-len.invariant.1 ∙ ap (λ (n : ℕ). sets c.args.points.now 0 (joined (stored_of c.args.given.now c.args.lens.now) n)) k) c.clear_from.ensures (omega (arith, c.requires.0.numbers_add_up)) (omega (arith, c.requires.0.numbers_add_up, c.requires.1))

-- `fan::polygon_sides`: the edges of one polygon, one after the other. Assumes nothing.
use Rattle.fan.specs.Fan.{sides_fan}
use Rattle.fan.proofs.Adding.{added_none, added_both}
use Rattle.fan.proofs.Counts.{grows_sides, fit_after, below_after}
use native.Mathlib.Numerals.{add-one}
use native.Mathlib.Omega.{arith}
use Rattle.fan.proofs.polygon_sides.Goals as goal

pub loop-i-init : goal.loop-i-init
unfolding sides_fan
loop-i-init c = added_none _ _ _

pub add_side-s-requires : goal.add_side-s-requires
add_side-s-requires c = let g = grows_sides c.args.view c.args.points.now c.args.first c.args.n c.loop-i.i (omega (arith, c.requires.inside)) in record { fit = fit_after c.loop-i.invariant c.requires.fit; below = below_after c.loop-i.invariant _ 131072 (omega arith) g c.requires.below }

pub loop-i-preserved : goal.loop-i-preserved
unfolding sides_fan
loop-i-preserved c = rw add-one (added_both c.loop-i.invariant (rw c.side_at-found.ensures at c.add_side-s.ensures))

pub shape_of-floats : goal.shape_of-floats
shape_of-floats c = c.loop-i.invariant.floats_only.long

pub shape_of-words : goal.shape_of-words
shape_of-words c = c.loop-i.invariant.words_only.long

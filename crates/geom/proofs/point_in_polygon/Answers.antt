-- `geom::point_in_polygon` meets its contract. Assumes nothing.
use Rattle.geom.specs.Ring.{inside_up_to, point_in_polygon_of}
use mathlib.Core.Bool.{xor}
use Rattle.std.proofs.Common.{refl, ap, ◌∙◌, le_antisymm, add-one, arith, le-ltb, lt-ltb}
use Rattle.geom.proofs.point_in_polygon.Goals as goal

pub returns-then-n-lt3 : goal.returns-then-n-lt3
unfolding point_in_polygon_of
returns-then-n-lt3 c = simp (lt-ltb _ _ c.if-n-lt3.true)

pub overflow_sub-n : goal.overflow_sub-n
overflow_sub-n c = omega arith

pub corner-b-requires : goal.corner-b-requires
corner-b-requires c = omega arith

pub loop-i-init : goal.loop-i-init
unfolding inside_up_to
loop-i-init c = (refl, c.corner-b.ensures)

pub corner-a-requires : goal.corner-a-requires
corner-a-requires c = omega arith

pub loop-i-preserved : goal.loop-i-preserved
unfolding inside_up_to xor
loop-i-preserved c = (simp (add-one, c.crosses-inside.ensures, c.corner-a.ensures, c.loop-i.invariant.0, c.loop-i.invariant.1), simp (add-one, c.corner-a.ensures))

pub returns : goal.returns
unfolding point_in_polygon_of
returns c = simp (le-ltb _ _ c.if-n-lt3.false) (c.loop-i.invariant.0 ∙ ap (inside_up_to _ _) (le_antisymm (omega arith) c.loop-i-test.false))

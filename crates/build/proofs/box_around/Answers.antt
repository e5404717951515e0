-- `box_around`: the box grows by one point a turn. Assumes nothing.
use native.Mathlib.Numerals.{add-one}
use native.Mathlib.Omega.{arith}
use Rattle.geom.specs.Box.{box_up_to}
use Rattle.build.proofs.Orders.{box_end}
use Rattle.build.proofs.box_around.Goals as goal

pub loop-i-init : goal.loop-i-init
unfolding box_up_to
loop-i-init c = c.empty-b.ensures

pub loop-i-preserved : goal.loop-i-preserved
unfolding box_up_to
loop-i-preserved c = simp (add-one, c.include-b.ensures, c.ordered_point.ensures, c.loop-i.invariant)

pub returns : goal.returns
returns c = box_end c.args.given.now c.args.first c.args.len c.requires c.args.reversed c.loop-i.i _ (omega arith) (omega arith) c.loop-i.invariant

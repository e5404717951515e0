-- `area_of`: the area of the loaded points grows by one edge a turn. Assumes nothing.
use mathlib.Core.Path.{refl}
use native.Mathlib.Omega.{arith}
use Rattle.geom.specs.Ring.{area_up_to}
use Rattle.build.proofs.Orders.{area_step, area_end}
use Rattle.build.proofs.area_of.Goals as goal

pub loop-i-init : goal.loop-i-init
unfolding area_up_to
loop-i-init c = refl

pub loop-i-preserved : goal.loop-i-preserved
loop-i-preserved c = rw c.cross-s.ensures (area_step c.args.given.now c.args.first c.args.len c.requires c.loop-i.i _ _ _ (omega arith) c.loop-i.invariant c.given_point-a.ensures c.given_point-b.ensures)

pub returns : goal.returns
returns c = area_end c.args.given.now c.args.first c.args.len c.requires c.loop-i.i _ (omega arith) (omega arith) c.loop-i.invariant

-- `cone::ViewCone::draw` meets its contract: a circle, or the origin and an arc (proofs/Arcs.antt). Assumes nothing.
use Rattle.std.proofs.Common.{refl}
use Prim.Native.Nat.{◌+◌}
use native.Mathlib.Omega.{arith}
use Rattle.cone.proofs.FewSteps.{few_steps}
use Rattle.cone.proofs.Arcs.{circle_drawn, sector_drawn}
use Rattle.cone.proofs.ViewCone.draw.Goals as goal

pub put_arc-requires : goal.put_arc-requires
put_arc-requires c = omega (arith, c.steps-n.ensures, few_steps c.args.self c.args.tolerance)

pub returns-then-v : goal.returns-then-v
returns-then-v c = circle_drawn c.args.self c.args.tolerance c.view_of-v.result c.reach-r.result c.steps-n.result _ c.view_of-v.ensures c.reach-r.ensures c.steps-n.ensures _ _ c.if-v.true c.put_arc.ensures refl

pub overflow_add-n : goal.overflow_add-n
overflow_add-n c = omega (arith, c.steps-n.ensures, few_steps c.args.self c.args.tolerance)

pub put_arc-requires-2 : goal.put_arc-requires-2
put_arc-requires-2 c = omega (arith, c.steps-n.ensures, few_steps c.args.self c.args.tolerance)

pub returns : goal.returns
returns c = sector_drawn c.args.self c.args.tolerance c.view_of-v.result c.reach-r.result c.steps-n.result (_ + 2) c.view_of-v.ensures c.reach-r.ensures c.steps-n.ensures _ _ c.put_point.new.out c.if-v.false c.put_point.ensures c.put_arc-2.ensures (omega (arith))

-- `cone::put_arc` meets its contract: so far as many points are written as turns were made. Assumes nothing.
use mathlib.Core.Path.{ap, ◌∙◌}
use lib.ListN.{length}
use lib.Seq.{length-sets}
use Rattle.cone.specs.Cone.{arc_point_of}
use Rattle.cone.proofs.Arcs.{point_more}
use Rattle.cone.proofs.put_arc.Goals as goal

pub loop-k-preserved : goal.loop-k-preserved
loop-k-preserved c = point_more (arc_point_of c.args.v c.args.r c.args.steps) c.args.at c.loop-k.k _ _ _ c.arc_point.result c.loop-k.invariant c.arc_point.ensures c.put_point.ensures

pub shape_of-out : goal.shape_of-out
shape_of-out c = ap length c.loop-k.invariant ∙ simp length-sets

-- `point`: the point along the angle's direction.
use mathlib.Core.Path.{◌∙◌, ap}
use Rattle.geom.specs.declared.Vec2.{Vec2}
use Rattle.refining.specs.Refine.{along_of}
use Rattle.refining.proofs.Ways.{along_is}
use Rattle.refining.proofs.point.Goals as goal

pub returns : goal.returns
returns c = c.point_along.ensures ∙ ap (λ (d : Vec2). along_of c.args.view d c.args.hit) c.from_angle.ensures ∙ along_is c.args.view c.args.angle c.args.hit

-- `emit`: a ray that lies in the view, and one that does not. Assumes nothing.
use mathlib.Core.Path.{subst}
use mathlib.Core.List.{List}
use Rattle.room.specs.declared.Sample.{Sample}
use Rattle.rays.specs.Stands.{Emits}
use Rattle.rays.proofs.Ways.{ray_kept, ray_none}
use Rattle.rays.proofs.Emitting.{emits_none}
use Rattle.rays.proofs.emit.Goals as goal

pub returns : goal.returns
returns c =
    subst (λ (q : List Sample). Emits c.args.k q c.args.n c.push.result c.args.floats.now c.args.words.now c.push.new.floats c.push.new.words)
    (ray_kept c.args.view c.args.i c.args.event c.args.offset c.in-Some.angle c.in-Some.ensures) c.push.ensures

pub returns-in_default : goal.returns-in_default
returns-in_default c =
    subst (λ (q : List Sample). Emits c.args.k q c.args.n c.args.n c.args.floats.now c.args.words.now c.args.floats.now c.args.words.now)
    (ray_none c.args.view c.args.i c.args.event c.args.offset c.in_default.ensures) (emits_none c.args.k c.args.n c.args.floats.now c.args.words.now)

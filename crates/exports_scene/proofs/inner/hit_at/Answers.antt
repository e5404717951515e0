-- `hit_at`: the cast of the five numbers. Assumes nothing.
use Rattle.std.proofs.Common.{rules}
use Rattle.exports_scene.specs.Many.{hit_at}
use Rattle.exports_scene.proofs.inner.hit_at.Goals as goal

pub returns : goal.returns
unfolding hit_at
returns c = search rules

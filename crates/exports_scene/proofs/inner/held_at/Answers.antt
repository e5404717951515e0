-- `held_at`: whether the point is held. Assumes nothing.
use Rattle.std.proofs.Common.{rules}
use Rattle.exports_scene.specs.Many.{held_at}
use Rattle.exports_scene.proofs.inner.held_at.Goals as goal

pub returns : goal.returns
unfolding held_at
returns c = search rules

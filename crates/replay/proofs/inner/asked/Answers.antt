-- `asked`: reads the question of 504 behind the boxes, and asks it.
use Rattle.std.proofs.Common.{arith}
use Rattle.replay.proofs.inner.asked.Goals as goal

pub query-requires : goal.query-requires
query-requires c = record { sound_grid = c.requires; first_bound = omega (arith, c.if-n-gt64.false) }

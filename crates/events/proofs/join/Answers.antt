-- `join`: an event merged into the open one. Assumes nothing.
use Rattle.events.proofs.Loop.{join_is}
use Rattle.events.proofs.join.Goals as goal

pub returns : goal.returns
returns c = join_is c.args.g c.args.e c.args.corners c.kept.ensures

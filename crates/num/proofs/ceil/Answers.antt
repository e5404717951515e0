-- `num::ceil` meets its contract. Assumes nothing.
use Rattle.std.proofs.Common.{ap, ◌∙◌}
use lib.Ieee.{neg}
use Rattle.num.proofs.CompareLaws.{ceil_is}
use Rattle.num.proofs.ceil.Goals as goal

pub returns : goal.returns
returns c = ap neg c.floor.ensures ∙ ceil_is c.args.x

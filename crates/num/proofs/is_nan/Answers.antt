-- `num::is_nan` meets its contract. Assumes nothing.
use Rattle.num.proofs.CompareLaws.{ne_is}
use Rattle.num.proofs.is_nan.Goals as goal

pub returns : goal.returns
returns c = ne_is c.args.x

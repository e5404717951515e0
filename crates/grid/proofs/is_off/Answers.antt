-- `grid::is_off` meets its contract. Assumes nothing.
use Rattle.std.proofs.Common.{rules}
use Rattle.grid.specs.Range.{is_off}
use Rattle.grid.proofs.is_off.Goals as goal

pub returns : goal.returns
unfolding is_off
returns c = search rules

-- `near::gather_cells` meets its contract. Assumes nothing.
use Rattle.std.proofs.Common.{Some}
use native.Mathlib.Omega.{arith}
use Rattle.lists.proofs.Counting.{bit_le}
use Rattle.near.specs.Shared.{has_cell}
use Rattle.near.proofs.Gathering.{one_more}
use Rattle.near.proofs.gather_cells.Goals as goal

pub overflow_add-result : goal.overflow_add-result
overflow_add-result c = record { fits = omega (arith, c.has_cell.ensures, bit_le (has_cell (Some c.args.r)), c.requires.found_le_id.0, c.requires.small.1) }

pub returns : goal.returns
returns c = one_more _ _ _ _ _ _ _ _ _ c.key.ensures c.has_cell.ensures c.area.ensures c.put.ensures

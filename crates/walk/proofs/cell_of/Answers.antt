-- `walk::cell_of` meets its contract. Assumes nothing.
use native.Mathlib.Omega.{arith}
use Rattle.walk.proofs.Indices.{cell_fits}
use Rattle.walk.specs.Steps.{cell_number}
use borrow.Author.Rules.{rules}
use Rattle.walk.proofs.cell_of.Goals as goal

pub overflow_mul-result : goal.overflow_mul-result
overflow_mul-result c = record { fits = omega (arith, cell_fits c.args.p.row c.args.k.cols 0 (search rules) (search rules) (omega arith)) }

pub overflow_add-result : goal.overflow_add-result
overflow_add-result c = record { fits = cell_fits c.args.p.row c.args.k.cols c.args.p.col (search rules) (search rules) (search rules) }

pub returns : goal.returns
unfolding cell_number
returns c = search rules

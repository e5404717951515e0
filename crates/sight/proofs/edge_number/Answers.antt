-- `edge_number`: the sum, or the largest number. Assumes nothing.
use Rattle.sight.specs.Casting.{edge_number}
use native.Mathlib.Omega.{arith}
use Rattle.sight.proofs.edge_number.Goals as goal

pub returns-then-i-first : goal.returns-then-i-first
unfolding edge_number
returns-then-i-first c = omega arith

pub returns : goal.returns
unfolding edge_number
returns c = omega arith

-- `adds_up`: twice the sum of the lengths is the length of the list. Assumes nothing.
use native.Mathlib.Omega.{arith}
use Rattle.build.specs.Refusals.{adds_up}
use Rattle.build.proofs.adds_up.Goals as goal

pub overflow_mul-result : goal.overflow_mul-result
overflow_mul-result c = omega (arith, c.sum_of.ensures.1)

pub returns : goal.returns
unfolding adds_up
returns c = rw c.sum_of.ensures.0

-- `walk::axis_setup` meets its contract. Assumes nothing.
use native.Mathlib.Omega.{arith}
use lib.Dec.{le→leb}
use lib.Ieee.{in_float, of_bits, div}
use Rattle.walk.specs.Clipping.{axis_of}
use Rattle.walk.proofs.axis_setup.Goals as goal

pub int_to_float-boundary : goal.int_to_float-boundary
unfolding in_float
int_to_float-boundary c = omega (arith, le→leb)

pub returns-then-d : goal.returns-then-d
unfolding axis_of
returns-then-d c = rw c.if-d.true

pub returns-then-d-2 : goal.returns-then-d-2
unfolding axis_of
returns-then-d-2 c = rw (c.if-d.false, c.if-d-2.true)

pub returns : goal.returns
unfolding axis_of of_bits div
returns c = simp (c.if-d.false, c.if-d-2.false)

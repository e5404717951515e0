-- `cone::put_point` meets its contract: two numbers are stored. Assumes nothing.
use native.Mathlib.Numerals.{add-one}
use Rattle.cone.proofs.put_point.Goals as goal

pub returns : goal.returns
returns c = simp (c.put-2.ensures, c.put.ensures, add-one)

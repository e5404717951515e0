-- `replay::inner::cells_of` meets its contract. Assumes nothing.
use Rattle.std.proofs.Common.{ℕ, ◌*◌, ◌^◌, ◌<◌, ◌≤◌, refl, mul-le-mul_left, arith, rules}
use Rattle.replay.proofs.inner.cells_of.Goals as goal

below : (a b : ℕ) → a < 2 ^ 32 → b < 2 ^ 32 → a * b < 18446744073709551615
below a b x y = let l : a * b ≤ a * 4294967295 = mul-le-mul_left a (omega arith) in omega arith

pub overflow_mul-result : goal.overflow_mul-result
overflow_mul-result c = record { fits = omega (arith, below c.args.cols c.args.rows (search rules) (search rules)) }

pub returns : goal.returns
returns c = (refl, below c.args.cols c.args.rows (search rules) (search rules))

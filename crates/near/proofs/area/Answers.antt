-- `near::area` meets its contract. Assumes nothing.
use native.Mathlib.Omega.{arith}
use Rattle.near.proofs.Gathering.{area_is}
use Rattle.near.proofs.area.Goals as goal

pub overflow_mul-result : goal.overflow_mul-result
overflow_mul-result c = record { fits = omega (arith, area_is c.args.r _ _ c.count.ensures c.count-2.ensures, c.requires) }

pub returns : goal.returns
returns c = area_is c.args.r _ _ c.count.ensures c.count-2.ensures

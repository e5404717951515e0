-- `higher`: of two ids the higher, and the first that is found. Assumes nothing.
use Rattle.sight.proofs.Ways.{the_higher, is_first_lem}
use Rattle.sight.proofs.higher.Goals as goal

pub returns-in-Some : goal.returns-in-Some
returns-in-Some c = cc (the_higher c.args.w c.args.id c.in-Some.k c.in-Some.is)

pub returns-in-None : goal.returns-in-None
returns-in-None c = is_first_lem _ _ c.in-None.is

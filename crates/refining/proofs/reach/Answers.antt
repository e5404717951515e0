-- `reach`: the distance of the hit, or the range.
use Rattle.refining.proofs.reach.Goals as goal

pub returns-in-Some : goal.returns-in-Some
returns-in-Some c = cc

pub returns-in-None : goal.returns-in-None
returns-in-None c = cc

-- `cone::reach` meets its contract. Assumes nothing.
use Rattle.cone.specs.Cone.{reach_of}
use Rattle.cone.proofs.reach.Goals as goal

pub returns : goal.returns
unfolding reach_of
returns c = simp c.max.ensures

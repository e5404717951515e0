-- `site_of`: the head of eleven numbers. Assumes nothing.
use Rattle.answers.specs.Head.{site_of}
use Rattle.answers.proofs.site_of.Goals as goal

pub returns : goal.returns
unfolding site_of
returns c = cc

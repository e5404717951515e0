-- `cone_of`: each number in its place. Assumes nothing.
use Rattle.exports_view.specs.Numbers.{cone_of}
use Rattle.exports_view.proofs.numbers.cone_of.Goals as goal

pub returns : goal.returns
unfolding cone_of
returns c = cc

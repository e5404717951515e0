-- `rooms_of`: each number in its place. Assumes nothing.
use Rattle.exports_view.specs.Numbers.{rooms_of}
use Rattle.exports_view.proofs.numbers.rooms_of.Goals as goal

pub returns : goal.returns
unfolding rooms_of
returns c = cc

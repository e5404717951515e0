-- `all_inside`: width, height and every number given. Assumes nothing.
use Rattle.build.specs.Refusals.{all_inside}
use Rattle.build.proofs.all_inside.Goals as goal

pub returns : goal.returns
unfolding all_inside
returns c = rw (c.numbers_in.ensures, c.in_size-2.ensures, c.in_size.ensures)

-- `is_empty`: range and field of view. Assumes nothing.
use Rattle.view.specs.Post.{is_empty}
use Rattle.view.proofs.is_empty.Goals as goal

pub returns : goal.returns
unfolding is_empty
returns c = rw c.is_nan.ensures

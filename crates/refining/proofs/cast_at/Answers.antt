-- `cast_at`: the cast of the index that the room holds.
use Rattle.refining.specs.Refine.{cast_in}
use Rattle.refining.proofs.cast_at.Goals as goal

pub returns : goal.returns
unfolding cast_in
returns c = cc

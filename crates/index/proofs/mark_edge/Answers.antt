-- `mark_edge`: the one stretch and then the other. Assumes nothing.
use Rattle.index.proofs.Marks.{marked_both}
use Rattle.index.proofs.mark_edge.Goals as goal

pub returns : goal.returns
returns c = marked_both c.mark_stretch.ensures c.mark_stretch-2.ensures

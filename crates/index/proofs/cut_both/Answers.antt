-- `cut_both`: the one stretch and the other. Assumes nothing.
use Rattle.index.proofs.cut_both.Goals as goal

pub returns : goal.returns
returns c = rw (c.cut.ensures, c.cut-2.ensures)

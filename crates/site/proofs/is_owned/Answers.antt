-- `site::is_owned` meets its contract. Assumes nothing.
use Rattle.site.specs.Soundness.{owned}
use Rattle.site.proofs.is_owned.Goals as goal

pub returns : goal.returns
unfolding owned
returns c = simp (c.len_of-len.ensures, c.first_of-first.ensures, c.owner_at-k.ensures)

-- `ends_at`: read at once, or one by one past the end. Assumes nothing.
use Rattle.std.proofs.Common.{refl}
use Rattle.index.proofs.Ways.{ends_read, ends_at_by}
use Rattle.index.proofs.ends_at.Goals as goal

pub returns-then-at-floats : goal.returns-then-at-floats
returns-then-at-floats c = ends_read _ _ _ c.edges_f.ensures refl

pub returns : goal.returns
returns c = ends_at_by _ _ _ c.edges_f.ensures refl c.at.ensures c.at-2.ensures c.at-3.ensures c.at-4.ensures

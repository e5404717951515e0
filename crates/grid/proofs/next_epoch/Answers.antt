-- `grid::next_epoch` meets its contract. Assumes nothing.
use borrow.Author.Tests.{lt-ltb, le-ltb}
use mathlib.Core.Path.{refl}
use Rattle.grid.proofs.next_epoch.Goals as goal

pub returns-then-e-lt4294967295 : goal.returns-then-e-lt4294967295
returns-then-e-lt4294967295 c = simp (lt-ltb _ _ c.if-e-lt4294967295.true) (record { epoch_after = refl; marks_after = refl })

pub returns-else-e-lt4294967295 : goal.returns-else-e-lt4294967295
returns-else-e-lt4294967295 c = simp (le-ltb _ _ c.if-e-lt4294967295.false) (record { epoch_after = refl; marks_after = c.clear.ensures })

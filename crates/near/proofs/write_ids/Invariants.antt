-- `near::write_ids` meets its contract. Assumes nothing.
use lib.ListN.{take}
use mathlib.Core.Path.{◌≡◌}
use Rattle.near.specs.Keys.{ids_of}
use Rattle.near.proofs.write_ids.Given as goal

abbrev pub invariant-loop-i : goal.invariant-loop-i
invariant-loop-i l = take l.i l.ids ≡ ids_of (take l.i l.key-items)

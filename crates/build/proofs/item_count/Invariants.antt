-- `item_count`: what is counted and what is left are together the cells of all boxes. Assumes nothing.
use mathlib.Core.Path.{◌≡◌}
use Prim.Native.Nat.{◌*◌, ◌≤◌}
use Rattle.build.specs.Stored.{first_in}
use Rattle.build.proofs.Spans.{Counting}
use Rattle.build.proofs.item_count.Given as goal

abbrev pub invariant-loop-len : goal.invariant-loop-len
invariant-loop-len l = (l.first ≡ first_in l.lens l.len-index) × Counting l.g l.given l.lens l.n l.len-index × (l.n ≤ l.len-index * 1048576)

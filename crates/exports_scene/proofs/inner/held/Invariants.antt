-- `held`: n is the count of the first i points. Assumes nothing.
use mathlib.Core.Path.{◌≡◌}
use Prim.Native.Nat.{◌≤◌}
use Rattle.lists.specs.Lists.{sum_to}
use Rattle.exports_scene.specs.Many.{held_at}
use Rattle.exports_scene.proofs.inner.held.Given as goal

abbrev pub invariant-loop-i : goal.invariant-loop-i
invariant-loop-i l = (l.n ≡ sum_to (held_at l.g l.tables.points.now l.tables.boxes.now l.tables.polygons.now l.tables.starts.now l.tables.items.now l.asked) l.i) × (l.n ≤ l.i)

-- `test_items`: what is left of the ids, from the state so far, ends as all of them do. Assumes nothing.
use Rattle.sight.specs.Casting.{nearer_of, items_seen}
use lib.ListN.{drop}
use mathlib.Core.Path.{◌≡◌}
use Rattle.sight.proofs.test_items.Given as goal

abbrev pub invariant-loop-id : goal.invariant-loop-id
invariant-loop-id l = items_seen (nearer_of l.mode) l.ray l.tables.points.now l.tables.boxes.now l.tables.polygons.now l.s (drop l.id-index l.ids) ≡ items_seen (nearer_of l.mode) l.ray l.tables.points.now l.tables.boxes.now l.tables.polygons.now l.initial.s l.ids

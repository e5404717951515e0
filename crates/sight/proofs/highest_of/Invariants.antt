-- `highest_of`: the fold over the ids that are left, from what is found, is the fold over all. Assumes nothing.
use Rattle.sight.specs.Holding.{holds_point, higher_of, highest}
use Rattle.lists.specs.Lists.{filter}
use lib.ListN.{drop}
use mathlib.Core.List.{foldl}
use mathlib.Core.Path.{◌≡◌}
use Rattle.sight.proofs.highest_of.Given as goal

abbrev pub invariant-loop-id : goal.invariant-loop-id
invariant-loop-id l = foldl higher_of l.w (filter (holds_point l.tables.points.now l.tables.boxes.now l.tables.polygons.now l.p) (drop l.id-index l.ids)) ≡ highest (filter (holds_point l.tables.points.now l.tables.boxes.now l.tables.polygons.now l.p) l.ids)

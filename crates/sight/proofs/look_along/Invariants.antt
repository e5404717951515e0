-- `look_along`: the cells counted and those left are all, and what is left of the walk ends as the whole does. Assumes nothing.
use Rattle.sight.proofs.Looking.{Left}
use Rattle.sight.specs.Casting.{nearer_of, looker}
use Rattle.walk.specs.Steps.{left}
use Rattle.sight.proofs.look_along.Given as goal

abbrev pub invariant-loop-s : goal.invariant-loop-s
invariant-loop-s l = Left (looker (nearer_of l.mode) l.ray l.tables.points.now l.tables.boxes.now l.tables.polygons.now l.tables.starts.now l.tables.items.now) l.k l.initial.p l.p l.initial.s l.s l.cells

abbrev pub decreases-loop-s : goal.decreases-loop-s
decreases-loop-s l = left l.k l.p

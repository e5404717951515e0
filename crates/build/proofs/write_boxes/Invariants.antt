-- `write_boxes`: four numbers a turn, and zeros after the last. Assumes nothing.
use mathlib.Core.Path.{◌≡◌}
use lib.Seq.{sets}
use Rattle.lists.specs.Lists.{joined}
use Rattle.site.specs.Tables.{box_of}
use Rattle.build.specs.Stored.{box_numbers}
use Rattle.build.proofs.write_boxes.Given as goal

abbrev pub invariant-loop-k : goal.invariant-loop-k
invariant-loop-k l = l.boxes ≡ sets l.initial.boxes 0 (joined (λ j. box_numbers (box_of l.points l.polygons j)) l.k)

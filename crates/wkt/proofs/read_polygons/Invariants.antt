-- `wkt::read_polygons` meets its contract. Assumes nothing.
use Rattle.std.proofs.Common.{◌≡◌, ◌-◌, length}
use Rattle.wkt.proofs.Lined.{Lined}
use Rattle.wkt.specs.Rules.{rules}
use Rattle.wkt.proofs.read_polygons.Given as goal

abbrev pub invariant-loop-i : goal.invariant-loop-i
invariant-loop-i l = Lined (rules l.whole l.part) l.s l.at l.initial.pts l.initial.lens l.pts l.lens l.i l.m l.k × (length l.pts ≡ length l.initial.pts) × (length l.lens ≡ length l.initial.lens)

abbrev pub decreases-loop-i : goal.decreases-loop-i
decreases-loop-i l = length l.s - l.i

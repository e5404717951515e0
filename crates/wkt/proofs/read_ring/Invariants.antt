-- `wkt::read_ring` meets its contract. Assumes nothing.
use Rattle.std.proofs.Common.{◌≡◌, ◌-◌, length}
use Rattle.wkt.proofs.Rings.{Taken}
use Rattle.wkt.specs.Rules.{rules}
use Rattle.wkt.proofs.read_ring.Given as goal

abbrev pub invariant-loop-pts : goal.invariant-loop-pts
invariant-loop-pts l = Taken (rules l.whole l.part) l.s l.at l.initial.pts l.k l.first.x l.first.y l.pts l.last.x l.last.y l.last.next l.n × (length l.pts ≡ length l.initial.pts)

abbrev pub decreases-loop-pts : goal.decreases-loop-pts
decreases-loop-pts l = length l.s - l.last.next

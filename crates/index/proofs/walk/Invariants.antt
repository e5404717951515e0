-- `walk`: what is left of the part gives what the whole gives, and so many more are tested. Assumes nothing.
use Rattle.std.proofs.Common.{◌≡◌, ◌+◌, map, length}
use Rattle.lists.specs.Parts.{part}
use Rattle.room.specs.Records.{edge_at}
use Rattle.index.specs.Casting.{none_yet, walk_of, tested_of}
use Rattle.index.proofs.walk.Given as goal

abbrev pub invariant-loop-j : goal.invariant-loop-j
invariant-loop-j l = (walk_of l.slack l.o l.dir l.mode l.b (map (edge_at l.k l.floats l.words) (part l.j l.to l.words)) ≡ walk_of l.slack l.o l.dir l.mode (none_yet l.max) (map (edge_at l.k l.floats l.words) (part l.from l.to l.words))) × (l.j + length (tested_of l.slack l.o l.dir l.mode l.b (map (edge_at l.k l.floats l.words) (part l.j l.to l.words))) ≡ l.from + length (tested_of l.slack l.o l.dir l.mode (none_yet l.max) (map (edge_at l.k l.floats l.words) (part l.from l.to l.words))))

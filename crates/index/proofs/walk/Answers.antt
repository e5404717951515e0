-- `walk`: what is left of the part gives what the whole gives, and so many more are tested. Assumes nothing.
use Rattle.std.proofs.Common.{map, length, sym, refl, ◌∙◌, arith}
use Rattle.lists.specs.Parts.{part}
use Rattle.room.specs.Records.{edge_at}
use Rattle.index.specs.Casting.{none_yet, tested_of}
use Rattle.index.proofs.Walking.{stops, goes, walk_end}
use Rattle.index.proofs.walk.Goals as goal

pub loop-j-init : goal.loop-j-init
loop-j-init c = (refl, refl)

pub returns-then-stops : goal.returns-then-stops
returns-then-stops c = let q = stops c.args.k c.args.slack c.args.floats.now c.args.words.now c.args.from c.args.to c.args.o c.args.dir c.args.mode c.loop-j.b _ (length (tested_of c.args.slack c.args.o c.args.dir c.args.mode (none_yet c.args.max) (map (edge_at c.args.k c.args.floats.now c.args.words.now) (part c.args.from c.args.to c.args.words.now)))) c.loop-j.j (omega arith) (omega arith) c.loop-j.invariant.0 c.loop-j.invariant.1 refl c.at-near.ensures c.stops.ensures c.if-stops.true in record { best_value = q.0; from_value = (refl, q.1) }

pub loop-j-preserved : goal.loop-j-preserved
loop-j-preserved c = let q = goes c.args.k c.args.slack c.args.floats.now c.args.words.now c.args.from c.args.to c.args.o c.args.dir c.args.mode c.loop-j.b _ (length (tested_of c.args.slack c.args.o c.args.dir c.args.mode (none_yet c.args.max) (map (edge_at c.args.k c.args.floats.now c.args.words.now) (part c.args.from c.args.to c.args.words.now)))) c.loop-j.j (omega arith) (omega arith) c.loop-j.invariant.0 c.loop-j.invariant.1 refl c.at-near.ensures c.stops.ensures c.if-stops.false _ c.ends_at-e.ensures _ c.meet-b.ensures in (q.0, q.1)

pub returns : goal.returns
returns c = let q = walk_end c.args.slack c.args.o c.args.dir c.args.mode (edge_at c.args.k c.args.floats.now c.args.words.now) c.loop-j.b c.args.words.now c.loop-j.j c.args.to (omega arith) in record { best_value = sym q.0 ∙ c.loop-j.invariant.0; from_value = (refl, omega (arith, q.1, c.loop-j.invariant.1)) }

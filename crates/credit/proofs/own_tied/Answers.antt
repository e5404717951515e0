-- `own_tied`: what is left to credit, from here. Assumes nothing.
use mathlib.Core.Path.{refl, ap, ◌∙◌}
use mathlib.Core.List.{List, map}
use Prim.Native.Nat.{ℕ}
use Rattle.lists.specs.Parts.{part}
use Rattle.room.specs.Records.{edge_at}
use Rattle.credit.specs.Credit.{firsts_of, tied_numbers, own_all}
use Rattle.credit.proofs.Ways.{tied_is, turn, turned}
use Rattle.credit.proofs.own_tied.Goals as goal

pub loop-i-init : goal.loop-i-init
loop-i-init c = (refl, refl, refl, c.requires)

pub own_one-r-requires : goal.own_one-r-requires
own_one-r-requires c = c.loop-i.invariant.3

pub loop-i-preserved : goal.loop-i-preserved
loop-i-preserved c = (c.own_one-r.auto.marks ∙ c.loop-i.invariant.0, c.own_one-r.auto.mine ∙ c.loop-i.invariant.1, turn c.args.k c.args.floats.now c.args.words.now c.args.owners.now (part c.min.result c.min-end.result c.args.words.now) c.args.o c.args.dir c.args.t c.args.k.owners _ c.loop-i.i-index _ c.loop-i-test.true refl c.loop-i.mine c.loop-i.marks c.loop-i.r c.loop-i.invariant.2 _ _ _ c.own_one-r.ensures.by_index, c.own_one-r.ensures.room)

pub shape_of-marks : goal.shape_of-marks
shape_of-marks c = c.loop-i.invariant.0

pub shape_of-mine : goal.shape_of-mine
shape_of-mine c = c.loop-i.invariant.1

pub returns : goal.returns
returns c =
    turned c.args.k c.args.floats.now c.args.words.now c.args.owners.now (part c.min.result c.min-end.result c.args.words.now) c.args.o c.args.dir c.args.t c.args.k.owners _ c.loop-i.i-index c.loop-i.mine c.loop-i.marks c.loop-i.r c.loop-i-test.false c.loop-i.invariant.2
    ∙ ap (λ (l : List ℕ). own_all c.args.k.owners c.args.owners.now (firsts_of c.args.owners.now c.args.mine.now (tied_numbers c.args.o c.args.dir c.args.t (map (edge_at c.args.k c.args.floats.now c.args.words.now) l))) c.args.marks.now c.args.s)
    (tied_is c.args.from c.args.to c.args.words.now c.min-end.ensures c.min.ensures)

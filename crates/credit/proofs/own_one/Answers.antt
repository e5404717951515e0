-- `own_one`: no tie, an owner that is marked, a new one. Assumes nothing.
use Rattle.std.proofs.Common.{refl}
use Rattle.credit.proofs.Ways.{one_far, one_had, one_new}
use Rattle.credit.proofs.own_one.Goals as goal

pub returns-then-not-ties : goal.returns-then-not-ties
returns-then-not-ties c = record { by_index = one_far c.args.k c.args.floats.now c.args.words.now c.args.owners.now c.args.o c.args.dir c.args.t c.args.i c.args.k.owners c.args.marks.now c.args.mine.now c.args.s c.ties.ensures (c.if-not-ties.true); room = c.requires }

pub returns-then-not-is_free : goal.returns-then-not-is_free
returns-then-not-is_free c = record { by_index = one_had c.args.k c.args.floats.now c.args.words.now c.args.owners.now c.args.o c.args.dir c.args.t c.args.i c.args.k.owners c.args.marks.now c.args.mine.now c.args.s c.ties.ensures (c.if-not-ties.false) c.number_at-e.ensures refl c.owner_at-p.ensures refl c.is_free.ensures (c.if-not-is_free.true); room = c.requires }

pub own-requires : goal.own-requires
own-requires c = c.requires

pub returns : goal.returns
returns c = record { by_index = one_new c.args.k c.args.floats.now c.args.words.now c.args.owners.now c.args.o c.args.dir c.args.t c.args.i c.args.k.owners c.args.marks.now c.args.mine.now c.args.s c.ties.ensures (c.if-not-ties.false) c.number_at-e.ensures refl c.owner_at-p.ensures refl c.is_free.ensures (c.if-not-is_free.false) c.put.ensures c.own.ensures.result_after; room = c.own.ensures.grown.entries }

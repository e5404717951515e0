-- `fill`: the notes, the ends of the blocks, and, where they fit, the references. Assumes nothing.
use Rattle.std.proofs.Common.{arith}
use Rattle.index.proofs.Fills.{endable, passed, putting, filled}
use Rattle.index.proofs.fill.Goals as goal

pub note_all-requires : goal.note_all-requires
note_all-requires c = c.requires.notable

pub block_ends-refs-requires : goal.block_ends-refs-requires
block_ends-refs-requires c = endable c.args.k c.args.floats.now c.args.x c.args.total c.args.n c.args.words.now c.requires c.note_all.new.words c.note_all.ensures

pub returns-then-k-refs : goal.returns-then-k-refs
returns-then-k-refs c = passed c.args.k c.args.floats.now c.args.x c.args.total c.args.n c.args.words.now c.requires c.note_all.new.words c.note_all.ensures c.block_ends-refs.result c.block_ends-refs.new.words c.block_ends-refs.ensures (omega (arith, c.if-k-refs.true))

pub put_all-requires : goal.put_all-requires
put_all-requires c = putting c.args.k c.args.floats.now c.args.x c.args.total c.args.n c.args.words.now c.requires c.note_all.new.words c.note_all.ensures c.block_ends-refs.result c.block_ends-refs.new.words c.block_ends-refs.ensures (omega (arith, c.if-k-refs.false))

pub returns : goal.returns
returns c = filled c.args.k c.args.floats.now c.args.x c.args.total c.args.n c.args.words.now c.requires c.note_all.new.words c.note_all.ensures c.block_ends-refs.result c.block_ends-refs.new.words c.block_ends-refs.ensures (omega (arith, c.if-k-refs.false)) c.put_all.new.words c.put_all.auto.words c.put_all.ensures

-- `walk_at`: no bucket, or the walk of one. Assumes nothing.
use Rattle.std.proofs.Common.{arith, refl}
use Rattle.index.proofs.Casts.{walk_none, walk_some}
use Rattle.index.proofs.walk_at.Goals as goal

pub returns-then-x-eq0 : goal.returns-then-x-eq0
returns-then-x-eq0 c = walk_none c.args.slack c.args.k c.args.x c.args.floats.now c.args.words.now c.args.o c.args.angle c.args.dir c.args.max c.if-x-eq0.true

pub overflow_add-to : goal.overflow_add-to
overflow_add-to c = omega (arith, c.well_formed, c.refs_w-refs.ensures)

pub returns : goal.returns
returns c = walk_some c.args.slack c.args.k c.args.x c.args.floats.now c.args.words.now c.args.o c.args.angle c.args.dir c.args.max (omega arith) c.turned.ensures c.max.ensures c.bucket.ensures.0 c.starts_w.ensures c.refs_w-refs.ensures c.at.ensures refl c.at-2.ensures refl c.walk.ensures.best_value c.walk.ensures.from_value

-- `block_ends`: cleared, marked, summed up, and the last sum read. Assumes nothing.
use Rattle.std.proofs.Common.{◌+◌, arith, refl}
use Rattle.index.proofs.Fills.{blank, counting, sum_room, last_in, ended}
use Rattle.index.proofs.block_ends.Goals as goal

pub mark_all-requires : goal.mark_all-requires
mark_all-requires c = counting c.args.k c.args.floats.now c.args.x c.args.total c.args.n c.args.words.now c.requires c.starts_w-starts.result (c.starts_w-starts.result + c.args.x.buckets + 1) c.starts_w-starts.ensures (omega (arith, c.starts_w-starts.ensures)) _ (blank c.args.k c.args.floats.now c.args.x c.args.total c.args.n c.args.words.now c.requires c.starts_w-starts.result (c.starts_w-starts.result + c.args.x.buckets + 1) c.starts_w-starts.ensures (omega (arith, c.starts_w-starts.ensures)) _ c.clear.auto.s c.clear.ensures)

pub sum_marks-requires : goal.sum_marks-requires
sum_marks-requires c = sum_room c.args.k c.args.floats.now c.args.x c.args.total c.args.n c.args.words.now c.requires c.starts_w-starts.result (c.starts_w-starts.result + c.args.x.buckets + 1) c.starts_w-starts.ensures (omega (arith, c.starts_w-starts.ensures)) _ (blank c.args.k c.args.floats.now c.args.x c.args.total c.args.n c.args.words.now c.requires c.starts_w-starts.result (c.starts_w-starts.result + c.args.x.buckets + 1) c.starts_w-starts.ensures (omega (arith, c.starts_w-starts.ensures)) _ c.clear.auto.s c.clear.ensures) _ c.mark_all.auto.words c.mark_all.ensures

pub offset_bounds-words-last : goal.offset_bounds-words-last
offset_bounds-words-last c = omega (arith, last_in c.args.k c.args.floats.now c.args.x c.args.total c.args.n c.args.words.now c.requires c.starts_w-starts.result (c.starts_w-starts.result + c.args.x.buckets + 1) c.starts_w-starts.ensures (omega (arith, c.starts_w-starts.ensures)) _ (blank c.args.k c.args.floats.now c.args.x c.args.total c.args.n c.args.words.now c.requires c.starts_w-starts.result (c.starts_w-starts.result + c.args.x.buckets + 1) c.starts_w-starts.ensures (omega (arith, c.starts_w-starts.ensures)) _ c.clear.auto.s c.clear.ensures) _ c.mark_all.auto.words c.mark_all.ensures c.args.x.buckets refl c.sum_marks.new.starts c.sum_marks.auto.starts c.sum_marks.ensures)

pub bounds-words-last : goal.bounds-words-last
bounds-words-last c = last_in c.args.k c.args.floats.now c.args.x c.args.total c.args.n c.args.words.now c.requires c.starts_w-starts.result (c.starts_w-starts.result + c.args.x.buckets + 1) c.starts_w-starts.ensures (omega (arith, c.starts_w-starts.ensures)) _ (blank c.args.k c.args.floats.now c.args.x c.args.total c.args.n c.args.words.now c.requires c.starts_w-starts.result (c.starts_w-starts.result + c.args.x.buckets + 1) c.starts_w-starts.ensures (omega (arith, c.starts_w-starts.ensures)) _ c.clear.auto.s c.clear.ensures) _ c.mark_all.auto.words c.mark_all.ensures c.args.x.buckets refl c.sum_marks.new.starts c.sum_marks.auto.starts c.sum_marks.ensures

pub returns : goal.returns
returns c = ended c.args.k c.args.floats.now c.args.x c.args.total c.args.n c.args.words.now c.requires c.starts_w-starts.result (c.starts_w-starts.result + c.args.x.buckets + 1) c.starts_w-starts.ensures (omega (arith, c.starts_w-starts.ensures)) _ (blank c.args.k c.args.floats.now c.args.x c.args.total c.args.n c.args.words.now c.requires c.starts_w-starts.result (c.starts_w-starts.result + c.args.x.buckets + 1) c.starts_w-starts.ensures (omega (arith, c.starts_w-starts.ensures)) _ c.clear.auto.s c.clear.ensures) _ c.mark_all.auto.words c.mark_all.ensures c.args.x.buckets refl c.sum_marks.new.starts c.sum_marks.auto.starts c.sum_marks.ensures _ refl

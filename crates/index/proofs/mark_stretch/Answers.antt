-- `mark_stretch`: two marks, or none. Assumes nothing.
use Rattle.std.proofs.Common.{◌≡◌, ◌+◌, ◌%◌, get_or, set, refl, ap, arith, get_or-set_other}
use Rattle.lists.specs.Lists.{bit}
use Rattle.index.proofs.Buckets.{turned}
use Rattle.index.proofs.Marks.{unmarked, marked}
use Rattle.index.proofs.mark_stretch.Goals as goal

pub returns-then-from-to : goal.returns-then-from-to
returns-then-from-to c =
    let up = (get_or c.args.starts.now c.args.s.from 0 + 1) % 4294967296 in
    let same : get_or (set c.args.starts.now c.args.s.from up) c.args.s.to 0 ≡ get_or c.args.starts.now c.args.s.to 0 = get_or-set_other c.args.starts.now c.args.s.from c.args.s.to up 0 (λ e. omega arith) in
    marked c.args.starts.now c.args.s.from c.args.s.to c.if-from-to.true c.requires _ _ refl (omega (arith, same))

pub returns-else-from-to : goal.returns-else-from-to
returns-else-from-to c = unmarked _ c.args.s.to c.args.starts.now (λ b. ap bit (turned c.args.s.from c.args.s.to b c.if-from-to.false))

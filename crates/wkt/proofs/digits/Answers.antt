-- `wkt::digits` meets its contract. Assumes nothing.
use Rattle.std.proofs.Common.{◌-◌, drop, arith}
use Rattle.wkt.proofs.Numerals.{ten_le, more, reading_more, reading_over, reading_none, reading_done, in_text}
use Rattle.wkt.proofs.digits.Goals as goal

pub returns-then-next-at-clause-seen : goal.returns-then-next-at-clause-seen
returns-then-next-at-clause-seen c = reading_over _ _ _ _ _ _ c.loop-d.invariant.0 c.in-Some.ensures c.if-next-at.true

pub overflow_mul-value : goal.overflow_mul-value
overflow_mul-value c = omega (arith, c.loop-d.invariant.0.small, ten_le (c.loop-d.next - c.args.at) 15 (omega arith))

pub overflow_add-value : goal.overflow_add-value
overflow_add-value c = omega (arith, c.loop-d.invariant.0.small, (more (drop c.loop-d.next c.args.s.now) c.in-Some.d c.in-Some.ensures).small, ten_le (c.loop-d.next - c.args.at) 15 (omega arith))

pub loop-d-smaller : goal.loop-d-smaller
loop-d-smaller c = omega (arith, in_text c.args.s.now c.loop-d.next c.in-Some.d c.in-Some.ensures)

pub loop-d-preserved : goal.loop-d-preserved
loop-d-preserved c = let r = c.loop-d.invariant.0.from in (reading_more _ _ _ _ _ c.loop-d.invariant.0 c.in-Some.ensures, omega arith)

pub returns-then-next-at-2-clause-seen : goal.returns-then-next-at-2-clause-seen
returns-then-next-at-2-clause-seen c = reading_none _ _ _ _ _ c.loop-d.invariant.0 c.in_default.ensures c.if-next-at-2.true

pub returns-clause-seen : goal.returns-clause-seen
returns-clause-seen c = reading_done _ _ _ _ _ c.loop-d.invariant.0 c.in_default.ensures c.if-next-at-2.false (omega arith)

-- `num::root54` meets its contract. Assumes nothing.
use Rattle.std.proofs.Common.{arith}
use Rattle.num.proofs.RootLaws.{small_square, square_pos, next_small}
use Rattle.num.proofs.root54.Goals as goal

pub overflow_mul-c : goal.overflow_mul-c
overflow_mul-c c = record { fits = small_square _ c.loop-c.invariant }

pub overflow_sub-c : goal.overflow_sub-c
overflow_sub-c c = omega (arith, square_pos _ _ c.loop-c-test.true)

pub loop-c-smaller : goal.loop-c-smaller
loop-c-smaller c = omega (arith, square_pos _ _ c.loop-c-test.true)

pub loop-c-2-smaller : goal.loop-c-2-smaller
loop-c-2-smaller c = omega (arith, next_small _ _ c.loop-c-2-test.true c.requires)

pub loop-c-2-preserved : goal.loop-c-2-preserved
loop-c-2-preserved c = (next_small _ _ c.loop-c-2-test.true c.requires, c.loop-c-2-test.true)

-- `num::root108` meets its contract. Assumes nothing.
use Rattle.std.proofs.Common.{refl, arith}
use Rattle.num.proofs.RootLaws.{a_low, a_high, d_fits, q_high, q_square, v_fits, root_kept, root_less}
use Rattle.num.proofs.root108.Goals as goal

pub overflow_mul-d-2 : goal.overflow_mul-d-2
overflow_mul-d-2 c = record { fits = d_fits _ _ c.requires.0 c.requires.1 c.root54-a.ensures }

pub overflow_mul-q : goal.overflow_mul-q
overflow_mul-q c = omega (arith, a_high _ _ c.requires.0 c.requires.1 c.root54-a.ensures)

pub nonzero_div-q : goal.nonzero_div-q
nonzero_div-q c = omega (arith, a_low _ _ c.requires.0 c.requires.1 c.root54-a.ensures)

pub overflow_mul-v : goal.overflow_mul-v
overflow_mul-v c = omega (arith, a_high _ _ c.requires.0 c.requires.1 c.root54-a.ensures)

pub nonzero_rem-v : goal.nonzero_rem-v
nonzero_rem-v c = omega (arith, a_low _ _ c.requires.0 c.requires.1 c.root54-a.ensures)

pub overflow_mul-s : goal.overflow_mul-s
overflow_mul-s c = omega (arith, a_high _ _ c.requires.0 c.requires.1 c.root54-a.ensures)

pub overflow_add-s : goal.overflow_add-s
overflow_add-s c = omega (arith, a_high _ _ c.requires.0 c.requires.1 c.root54-a.ensures, q_high _ _ c.requires.0 c.requires.1 c.root54-a.ensures)

pub overflow_mul-q-2 : goal.overflow_mul-q-2
overflow_mul-q-2 c = omega (arith, q_square _ _ c.requires.0 c.requires.1 c.root54-a.ensures)

pub overflow_mul-v-2 : goal.overflow_mul-v-2
overflow_mul-v-2 c = record { fits = v_fits _ _ c.requires.0 c.requires.1 c.root54-a.ensures }

pub returns-then-q-v : goal.returns-then-q-v
returns-then-q-v c = root_kept _ _ c.requires.0 c.requires.1 c.root54-a.ensures _ _ refl refl c.if-q-v.true

pub overflow_sub-result : goal.overflow_sub-result
overflow_sub-result c = (root_less _ _ c.requires.0 c.requires.1 c.root54-a.ensures _ _ refl refl c.if-q-v.false).0

pub returns : goal.returns
returns c = (root_less _ _ c.requires.0 c.requires.1 c.root54-a.ensures _ _ refl refl c.if-q-v.false).1

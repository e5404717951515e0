-- `num::root_bits` meets its contract. Assumes nothing.
use Rattle.std.proofs.Common.{ℕ, ◌*◌, ◌^◌, ◌<◌, ◌≤◌, sym, subst, arith}
use Rattle.num.specs.Root.{RootOf}
use Rattle.num.proofs.RootBits.{lead_low, moved, left_even, s_high, root_pattern, no_wrap, places}
use Rattle.num.proofs.root_bits.Goals as goal

pub overflow_cast-z : goal.overflow_cast-z
overflow_cast-z c = let t = lead_low _ c.requires.0 c.requires.1 in omega (arith, t.1)

pub overflow_sub-z : goal.overflow_sub-z
overflow_sub-z c = let t = lead_low _ c.requires.0 c.requires.1 in omega (arith, t.1, t.4)

pub overflow_add-p : goal.overflow_add-p
overflow_add-p c = let t = lead_low _ c.requires.0 c.requires.1 in omega (arith, t.1, c.requires.2)

pub overflow_add-p-2 : goal.overflow_add-p-2
overflow_add-p-2 c = let t = lead_low _ c.requires.0 c.requires.1 in omega (arith, t.1)

pub overflow_shl-m : goal.overflow_shl-m
overflow_shl-m c = omega (arith, (moved c.args.n c.args.h c.requires.0 c.requires.1).few)

pub root108-s-requires : goal.root108-s-requires
root108-s-requires c =
    let m = moved c.args.n c.args.h c.requires.0 c.requires.1 in
    subst (λ (x : ℕ). (4503599627370496 ≤ x) × (x < 18014398509481984)) (sym (no_wrap c.args.n c.args.h c.requires.0 c.requires.1)) (m.low, omega (arith, m.high))

pub overflow_sub-result : goal.overflow_sub-result
overflow_sub-result c = (left_even c.args.n c.args.h c.requires.0 c.requires.1).0

pub overflow_add-result-3 : goal.overflow_add-result-3
overflow_add-result-3 c = omega (arith, s_high c.args.n c.args.h c.root108-s.result c.requires.0 c.requires.1 c.requires.2 ((let it : RootOf (c.args.n * 2 ^ places c.args.n c.args.h * 2 ^ 54) c.root108-s.result = subst (λ (x : ℕ). RootOf (x * 2 ^ 54) c.root108-s.result) (no_wrap c.args.n c.args.h c.requires.0 c.requires.1) c.root108-s.ensures in it)))

pub returns : goal.returns
returns c = root_pattern c.args.n c.args.h c.root108-s.result c.requires.0 c.requires.1 c.requires.2 ((let it : RootOf (c.args.n * 2 ^ places c.args.n c.args.h * 2 ^ 54) c.root108-s.result = subst (λ (x : ℕ). RootOf (x * 2 ^ 54) c.root108-s.result) (no_wrap c.args.n c.args.h c.requires.0 c.requires.1) c.root108-s.ensures in it))

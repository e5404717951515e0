-- Loading keeps a number in the domain: x + 0 is from -1,000,000 to 1,000,000 where x is, and no less than 0 where x is. Assumes nothing.
use mathlib.Core.Path.{◌≡◌}
use mathlib.Core.Bool.{Bool, true, false, ◌&&◌, cond, true≢false}
use Prim.Native.Nat.{ℕ, ◌+◌, ◌-◌, ◌*◌, ◌≤◌, zero-le}
use native.Mathlib.Nat.{mul-pos, zero-mul}
use native.Mathlib.Omega.{arith}
use lib.Dec.{T, ltb, lit≤}
use lib.Ieee.{Float, nan, inf, fin, binary64, round, add, neg, le, up, down}
use lib.Ieee.Bits.{is_true}
use lib.Ieee.Exact.{HasValue}
use lib.Ieee.Fits.{and_i, down_pos}
use borrow.Author.Tests.{le-ltb}
use Rattle.num.specs.Ops.{zero_f}
use Rattle.bounds.specs.Within.{Within, AtLeast}
use Rattle.bounds.specs.Domain.{million, in_domain, in_size}
use Rattle.bounds.proofs.Within.{held, least_of_le, le_of_least, value_within, within_tests, round_least, add_within}
use Rattle.bounds.proofs.Domain.{zero_is, million_is, minus_million_is, domain_within, within_domain, size_least, size_within}
use Rattle.site.specs.Domain.{load_of}

-- a sum with zero is no less than zero where the number is
sum_least : (x y : Float) → HasValue y false 0 1 → AtLeast 0 x → AtLeast 0 (add binary64 x y)
unfolding add
sum_least nan y v h = absurd h
sum_least (inf false) nan v h = elim v [ ]
sum_least (inf false) (inf _) v h = elim v [ ]
sum_least (fin s m e) nan v h = elim v [ ]
sum_least (fin s m e) (inf _) v h = elim v [ ]
sum_least (inf true) y v h = absurd h
sum_least (inf false) (fin t n d) v h = tt
sum_least (fin s m e) (fin true n d) v h = absurd (true≢false v.0)
sum_least (fin false m e) (fin false n d) v h = round_least (m * up e * down d + n * up d * down e) (down e * down d) 0 (mul-pos (down_pos e) (down_pos d)) (held tt) (rw zero-mul zero-le)
sum_least (fin true m e) (fin false n d) v h =
    go (ltb (m * up e * down d) (n * up d * down e)) (ltb (n * up d * down e) (m * up e * down d)) (le-ltb (n * up d * down e) (m * up e * down d) none)
  where
    none : m * up e * down d ≤ n * up d * down e
    none = let z : m * up e ≡ 0 = omega (arith, h) in rw (z, zero-mul) zero-le

    least : (a : ℕ) → AtLeast 0 (round binary64 false a (down e * down d))
    least a = round_least a (down e * down d) 0 (mul-pos (down_pos e) (down_pos d)) (held tt) (rw zero-mul zero-le)

    go : (p q : Bool) → q ≡ false → AtLeast 0 (cond p (round binary64 false (n * up d * down e - m * up e * down d) (down e * down d)) (round binary64 (true && q) (m * up e * down d - n * up d * down e) (down e * down d)))
    go true q f = least (n * up d * down e - m * up e * down d)
    go false false f = least (m * up e * down d - n * up d * down e)
    go false true f = absurd (true≢false f)

load_within : (x : Float) → Within 1000000 x → Within 1000000 (load_of x)
unfolding load_of
load_within x h = add_within 1000000 0 1000000 x zero_f (lit≤ tt) (held tt) h (value_within 0 zero_f zero_is)

pub load_domain : (x : Float) → in_domain x ≡ true → in_domain (load_of x) ≡ true
load_domain x h = within_domain (load_of x) (load_within x (domain_within x h))

pub load_size : (x : Float) → in_size x ≡ true → in_size (load_of x) ≡ true
unfolding in_size
load_size x h = is_true (le zero_f (load_of x) && le (load_of x) million) (and_i (le zero_f (load_of x)) (le (load_of x) million) least (within_tests 1000000 (neg million) million (load_of x) minus_million_is million_is (load_within x (size_within x h))).1)
  where
    least : T (le zero_f (load_of x))
    least = unfold load_of in le_of_least 0 (load_of x) zero_f zero_is (sum_least x zero_f zero_is (least_of_le 0 x zero_f zero_is (size_least x h)))

-- The tests of document 01's "Domain" as bounds, both ways. Assumes nothing.
use mathlib.Core.Path.{◌≡◌, refl}
use Prim.Native.Nat.{zero-le}
use mathlib.Core.Bool.{true, false}
use lib.Dec.{T}
use lib.Ieee.{Float, of_bits, neg, le}
use lib.Ieee.Fits.{and_i, and_l, and_r}
use lib.Ieee.Bits.{is_true}
use lib.Ieee.Exact.{HasValue}
use Rattle.num.specs.Ops.{zero_f, one_f}
use Rattle.num.proofs.Whole.{yes}
use Rattle.bounds.specs.Within.{Within}
use Rattle.bounds.specs.Domain.{million, in_domain, in_size}
use Rattle.num.proofs.FloatOrder.{le_value, trans}
use Rattle.bounds.proofs.Within.{one_pos, tests_within, within_tests}

-- ---- the literals
pub zero_is : HasValue zero_f false 0 1
unfolding of_bits
zero_is = (refl, refl)

pub one_is : HasValue one_f false 1 1
unfolding of_bits
one_is = (refl, refl)

pub million_is : HasValue million false 1000000 1
unfolding of_bits
million_is = (refl, refl)

pub minus_million_is : HasValue (neg million) true 1000000 1
unfolding of_bits neg
minus_million_is = (refl, refl)

-- ---- a coordinate
pub domain_within : (x : Float) → in_domain x ≡ true → Within 1000000 x
unfolding in_domain
domain_within x h =
    tests_within 1000000 (neg million) million x minus_million_is million_is
    (and_l (le (neg million) x) (le x million) (yes h)) (and_r (le (neg million) x) (le x million) (yes h))

pub within_domain : (x : Float) → Within 1000000 x → in_domain x ≡ true
unfolding in_domain
within_domain x h =
    let t = within_tests 1000000 (neg million) million x minus_million_is million_is h in
    is_true (in_domain x) (and_i (le (neg million) x) (le x million) t.0 t.1)

-- ---- a width or a height
pub size_least : (x : Float) → in_size x ≡ true → T (le zero_f x)
unfolding in_size
size_least x h = and_l (le zero_f x) (le x million) (yes h)

pub size_within : (x : Float) → in_size x ≡ true → Within 1000000 x
unfolding in_size
size_within x h =
    tests_within 1000000 (neg million) million x minus_million_is million_is
    (trans (neg million) zero_f x (le_value (neg million) zero_f true 1000000 1 false 0 1 one_pos one_pos minus_million_is zero_is zero-le) (size_least x h))
    (and_r (le zero_f x) (le x million) (yes h))

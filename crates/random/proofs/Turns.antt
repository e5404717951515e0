-- The directions of a random polygon's points: there are 33 of them, for 3 to 8 points, and the cosine and the sine of each are computed to lie from -2 to 2.
-- Assumes nothing.
use Rattle.std.proofs.Common.{◌≡◌, ℕ, ◌+◌, ◌-◌, ◌<◌, ◌≤◌, Bool, true, false, ◌&&◌, refl, subst, arith}
use lib.Ieee.{Float, of_bits, of_int, round, add, sub, mul, div, neg, le, lt, eq, is_nan}
use lib.Ieee.Exact.{HasValue}
use Rattle.num.specs.Ops.{◌⊗◌, ◌⊘◌}
use Rattle.num.proofs.Whole.{yes}
use Rattle.lists.specs.Members.{all_to}
use Rattle.lists.proofs.AllTo.{both, all_to_at}
use Rattle.angle.specs.Angles.{sin_near, cos_near, turns, left, quadrant, pick, sin_far, cos_far, sin_of, cos_of}
use Rattle.geom.specs.Constants.{two, tau}
use Rattle.bounds.specs.Within.{Within}
use Rattle.bounds.proofs.Within.{tests_within}
use Rattle.grid.specs.Range.{count_f}

-- the angle of the point i of n
abbrev pub angle_of : ℕ → ℕ → Float
angle_of n i = tau ⊗ count_f i ⊘ count_f n

abbrev small : Float → Bool
small x = le (neg two) x && le x two

abbrev fits : ℕ → ℕ → Bool
fits n i = small (cos_of (angle_of n i)) && small (sin_of (angle_of n i))

all_fit : all_to (λ n. all_to (fits (n + 3)) (n + 3)) 6 ≡ true
unfolding of_bits of_int round add sub mul div neg le lt eq is_nan sin_near cos_near turns left quadrant pick sin_far cos_far sin_of cos_of
all_fit = refl

fits_at : (n i : ℕ) → 3 ≤ n → n ≤ 8 → i < n → fits n i ≡ true
fits_at n i h k l =
    let e : n - 3 + 3 ≡ n = omega arith in
    subst (λ (m : ℕ). fits m i ≡ true) e
    (all_to_at (fits (n - 3 + 3)) (n - 3 + 3) (all_to_at (λ m. all_to (fits (m + 3)) (m + 3)) 6 all_fit (n - 3) (omega arith)) i (omega arith))

two_is : HasValue two false 2 1
unfolding of_bits
two_is = (refl, refl)

minus_two_is : HasValue (neg two) true 2 1
unfolding of_bits neg
minus_two_is = (refl, refl)

small_within : (x : Float) → small x ≡ true → Within 2 x
small_within x e =
    let b = both (le (neg two) x) (le x two) e in
    tests_within 2 (neg two) two x minus_two_is two_is (yes b.0) (yes b.1)

pub turn_within : (n i : ℕ) → 3 ≤ n → n ≤ 8 → i < n → Within 2 (cos_of (angle_of n i)) × Within 2 (sin_of (angle_of n i))
turn_within n i h k l =
    let b = both (small (cos_of (angle_of n i))) (small (sin_of (angle_of n i))) (fits_at n i h k l) in
    (small_within (cos_of (angle_of n i)) b.0, small_within (sin_of (angle_of n i)) b.1)

-- The order of computed distances, by the tests that the code makes: what equals y is at most y, what is at most y is below all that y is below, and nothing is below
-- itself. For the casts that take the nearest edge: crates `sight` and `index`. Assumes nothing.
use mathlib.Core.Path.{◌≡◌, refl}
use mathlib.Core.Bool.{Bool, true, false, ◌||◌}
use lib.Dec.{T}
use lib.Ieee.{Float, lt, le, eq}
use lib.Ieee.Bits.{is_true}
use Rattle.num.proofs.Whole.{yes}
use Rattle.num.proofs.FloatOrder.{on_test, not_lt, lt_not_le, lt_le, le_left, le_right, trans, eq_same}

-- a test that cannot hold fails
pub off : (b : Bool) → (b ≡ true → ⊥) → b ≡ false
off true h = absurd (h refl)
off false h = refl

-- x = y gives x ≤ y
pub eq_le : (x y : Float) → eq x y ≡ true → T (le x y)
unfolding le
eq_le x y e = by (lt x y) (eq x y) e
  where
    by : (p q : Bool) → q ≡ true → T (p || q)
    by true q h = tt
    by false q h = yes h

-- x ≤ y < z
pub le_lt : (x y z : Float) → T (le x y) → lt y z ≡ true → lt x z ≡ true
le_lt x y z h k =
    on_test (lt x z) (λ t. is_true (lt x z) t)
    (λ t. absurd (lt_not_le y z (yes k) (trans z x y (not_lt z x (le_right y z (lt_le y z (yes k))) (le_left x y h) t) h)))

-- x < y < z
pub lt_lt : (x y z : Float) → lt x y ≡ true → lt y z ≡ true → lt x z ≡ true
lt_lt x y z h k = le_lt x y z (lt_le x y (yes h)) k

-- nothing is below itself
pub lt_self : (x : Float) → lt x x ≡ false
lt_self x = off (lt x x) (λ e. lt_not_le x x (yes e) (lt_le x x (yes e)))

-- and what is below something equals itself: it is no NaN
pub lt_eq_self : (x y : Float) → lt x y ≡ true → eq x x ≡ true
lt_eq_self x y h = is_true (eq x x) (eq_same x (le_left x y (lt_le x y (yes h))))

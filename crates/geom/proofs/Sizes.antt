-- |x| < k, by way of the sign of x: for a minus zero x itself serves. Assumes nothing.
use Rattle.std.proofs.Common.{◌≡◌, ℕ, zero, suc, ◌+◌, ◌*◌, ◌<◌, ◌≤◌, true, false, ℤ, refl, true≢false, zero-lt-suc, mul-pos, zero-add, zero-mul, arith, ltb→lt, nltb→le, le-ltb}
use mathlib.Core.Bool.{false≢true}
use lib.Ieee.{Float, nan, inf, fin, up, down, neg, lt, of_bits}
use lib.Ieee.Fits.{up_pos}
use Rattle.num.specs.Ops.{zero_f}
use Rattle.num.specs.Num.{abs_of}
use Rattle.num.proofs.Whole.{yes, nay}

not_above : (a d : ℕ) → 0 < a → a * 1 + 0 * 1 * d ≤ 0 → ⊥
not_above a d p h = omega (arith, zero-mul d)

pub below_zero : (x k : Float) → lt x zero_f ≡ true → lt (neg x) k ≡ lt (abs_of x) k
unfolding lt neg abs_of of_bits
below_zero nan k h = refl
below_zero (inf true) k h = refl
below_zero (inf false) k h = absurd (false≢true h)
below_zero (fin true m e) k h = refl
below_zero (fin false m e) k h = absurd (no (m * up e) (down e) (ltb→lt _ _ (yes h)))
  where
    no : (a d : ℕ) → a * 1 < 0 * 1 * d → ⊥
    no a d h = omega (arith, zero-mul d)

zero_less : (e : ℤ) (k : Float) → lt (fin true zero e) k ≡ lt (fin false zero e) k
unfolding lt
zero_less e nan = refl
zero_less e (inf t) = refl
zero_less e (fin true n d) = simp zero-mul (le-ltb (n * up d * down e) 0 (omega arith))
zero_less e (fin false n d) = simp (zero-mul, zero-add)

pub from_zero : (x k : Float) → lt x zero_f ≡ false → lt x k ≡ lt (abs_of x) k
unfolding lt abs_of of_bits
from_zero nan k h = refl
from_zero (inf true) k h = absurd (true≢false h)
from_zero (inf false) k h = refl
from_zero (fin false m e) k h = refl
from_zero (fin true zero e) k h = zero_less e k
from_zero (fin true (suc m) e) k h = absurd (not_above (suc m * up e) (down e) (mul-pos (zero-lt-suc m) (up_pos e)) (nltb→le _ _ (nay h)))

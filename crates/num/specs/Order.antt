-- IEEE 754-2019's totalOrder (5.10), as Rust's `total_cmp` has it. The logic has one NaN, without a sign: it counts as a positive one and comes last.
-- Definitions only.
use Rattle.std.specs.Prelude.{◌≡◌, Bool, true, false, cond, not, ◌&&◌, ◌||◌, ◌==◌, Float}
use Rattle.std.specs.Float.{nan, inf, fin}
use Rattle.std.specs.Float.Ieee.{lt, eq, is_nan}
use Rattle.std.specs.declared.cmp.Ordering.{Ordering}
use Rattle.std.specs.declared.cmp.Ordering.TheVariants.{Less, Equal, Greater}

unfoldable pub is_minus_zero : Float → Bool
is_minus_zero nan = false
is_minus_zero (inf s) = false
is_minus_zero (fin s m e) = s && m == 0

-- x comes before y and is not the same: x < y; -0 before +0; every number before a NaN, which counts as a positive one
unfoldable pub before : Float → Float → Bool
unfolding lt eq is_nan is_minus_zero
before x y = lt x y || (eq x y && (is_minus_zero x && not (is_minus_zero y))) || (not (is_nan x) && is_nan y)

-- what `total_cmp` answers
unfoldable pub order_of : Float → Float → Ordering
unfolding before
order_of x y = cond (before x y) Less (cond (before y x) Greater Equal)

-- ---- what a sort needs of a test `lt x y`, "x goes before y and is not level with it": it is a strict weak order
pub record Weak {A : Type 0} (lt : A → A → Bool) : Type 0 where
  pub not_self : (x : A) → lt x x ≡ false
  pub via : (x y z : A) → lt x y ≡ true → lt y z ≡ true → lt x z ≡ true
  pub gap : (x y z : A) → lt x z ≡ true → lt y z ≡ false → lt x y ≡ true

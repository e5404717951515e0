-- CHECKS MADE ONE AFTER THE OTHER: what comes of them is given exactly when the rows say (`Exactly` of specs/Checks.antt). Assumes nothing.
use mathlib.Core.Path.{◌≡◌, refl, sym, ◌∙◌}
use mathlib.Core.Bool.{Bool, true, false, not, ◌&&◌, cond}
use Prim.Native.Nat.{ℕ}
use native.Mathlib.Omega.{arith}
use lib.Dec.{eqb}
use borrow.Author.Tests.{eqb-true, eqb-false, not-true}
use Rattle.site.specs.Checks.{Checks, passed, check, Row, Exactly, is_new}

differ : {A : Type 0} → true ≡ false → A
differ e = let z : ◌≡◌ {A = ℕ} 0 1 = cc in absurd (omega arith)

-- ---- a number that no check has is never given
no_row_by : (k : ℕ) (P : Type 0) (cs : Checks) (q : Bool) → (not q && is_new k cs) ≡ true → (is_new k cs ≡ true → Row cs k → ⊥) → cond q (P → ⊥) (P × Row cs k) → ⊥
no_row_by k P cs true e f r = differ (sym e)
no_row_by k P cs false e f r = f e r.1

no_row : (k : ℕ) (cs : Checks) → is_new k cs ≡ true → Row cs k → ⊥
no_row k passed e r = eqb-false k 0 (not-true (eqb k 0) e) r
no_row k (check j P cs) e r = no_row_by k P cs (eqb k j) e (no_row k cs) r

pub never : {cs : Checks} {status : ℕ} → Exactly cs status → (k : ℕ) → is_new k cs ≡ true → status ≡ k → ⊥
never {cs} x k e s = no_row k cs e (x.only k s)

-- ---- one check after the other
pub all_passed : Exactly passed 0
all_passed = record { when = λ n r. sym r; only = λ n e. sym e }

module _ (k : ℕ) (P : Type 0) (cs : Checks) (rest : ℕ) (new : is_new k cs ≡ true) where
  holds_when : P → Exactly cs rest → (n : ℕ) (q : Bool) → cond q (P → ⊥) (P × Row cs n) → rest ≡ n
  holds_when p x n true r = absurd (r p)
  holds_when p x n false r = x.when n r.1

  holds_only : P → Exactly cs rest → (n : ℕ) (q : Bool) → eqb n k ≡ q → rest ≡ n → cond q (P → ⊥) (P × Row cs n)
  holds_only p x n true t e = absurd (never x k new (e ∙ eqb-true n k t))
  holds_only p x n false t e = (p, x.only n e)

  -- the check holds, and those after it decide
  holds : P → Exactly cs rest → Exactly (check k P cs) rest
  holds p x = record { when = λ n r. holds_when p x n (eqb n k) r; only = λ n e. holds_only p x n (eqb n k) refl e }

module _ (k : ℕ) (P : Type 0) (cs : Checks) where
  fails_when : (P → ⊥) → (n : ℕ) (q : Bool) → eqb n k ≡ q → cond q (P → ⊥) (P × Row cs n) → k ≡ n
  fails_when f n true t r = sym (eqb-true n k t)
  fails_when f n false t r = absurd (f r.0)

  fails_only : (P → ⊥) → (n : ℕ) (q : Bool) → eqb n k ≡ q → k ≡ n → cond q (P → ⊥) (P × Row cs n)
  fails_only f n true t e = f
  fails_only f n false t e = absurd (eqb-false n k t (sym e))

  -- it does not hold, and its number is given
  fails : (P → ⊥) → Exactly (check k P cs) k
  fails f = record { when = λ n r. fails_when f n (eqb n k) refl r; only = λ n e. fails_only f n (eqb n k) refl e }

-- A CHECK by a test that is true where it holds; what follows need be so only where it holds
pub by_true : (k : ℕ) (P : Type 0) (cs : Checks) (rest : ℕ) (b : Bool) → is_new k cs ≡ true → (b ≡ true → P) → (P → b ≡ true) → (P → Exactly cs rest)
    → Exactly (check k P cs) (cond b rest k)
by_true k P cs rest true new y z x = holds k P cs rest new (y refl) (x (y refl))
by_true k P cs rest false new y z x = fails k P cs (λ p. differ (sym (z p)))

-- and by one that is false where it holds
pub by_false : (k : ℕ) (P : Type 0) (cs : Checks) (rest : ℕ) (b : Bool) → is_new k cs ≡ true → (b ≡ false → P) → (P → b ≡ false) → (P → Exactly cs rest)
    → Exactly (check k P cs) (cond b k rest)
by_false k P cs rest true new y z x = fails k P cs (λ p. differ (z p))
by_false k P cs rest false new y z x = holds k P cs rest new (y refl) (x (y refl))

-- the status of one answer or another
pub either : {A : Type 0} (status : A → ℕ) (b : Bool) (x y : A) → status (cond b x y) ≡ cond b (status x) (status y)
either status true x y = refl
either status false x y = refl

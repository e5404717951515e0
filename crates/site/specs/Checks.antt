-- THE ORDER OF CHECKS, AND "GIVEN EXACTLY WHEN". Document 01, "Refusal numbers": each number has its row, which says when it is given, and the checks have an order,
-- "2, 3, 1, 4, 5 for building; 6, 1, 7, 8 for questions". A status is 0 or the number of the refusal. Assumes nothing.
use Rattle.std.specs.Prelude.{◌≡◌, refl, Bool, not, ◌&&◌, cond, ℕ, eqb}

-- checks in their order: of each the number of its refusal, and what must hold
pub data Checks : Type 1 where
  passed : Checks
  check : ℕ → Type 0 → Checks → Checks

-- THE ROW OF n: every check before its own holds, and its own does not. The row of 0: every check holds. A number that no check has is never given
abbrev pub Row : Checks → ℕ → Type 0
Row passed n = n ≡ 0
Row (check k Holds later) n = cond (eqb n k) (Holds → ⊥) (Holds × Row later n)

-- EXACTLY WHEN: the status is n if and only if the row of n says so
pub record Exactly (checks : Checks) (status : ℕ) : Type 0 where
  pub when : (n : ℕ) → Row checks n → status ≡ n
  pub only : (n : ℕ) → status ≡ n → Row checks n

-- k is not 0, and no check has it
abbrev pub is_new : ℕ → Checks → Bool
is_new k passed = not (eqb k 0)
is_new k (check j Holds later) = not (eqb k j) && is_new k later

-- ---- what the rows come to, in the questions' order: of 6, 1, 7, 8, of 0, and of another number
module _ (A B C D : Type 0) where
  abbrev questions : Checks
  questions = check 6 A (check 1 B (check 7 C (check 8 D passed)))

  six : Row questions 6 ≡ (A → ⊥)
  six = refl

  one : Row questions 1 ≡ (A × (B → ⊥))
  one = refl

  seven : Row questions 7 ≡ (A × (B × (C → ⊥)))
  seven = refl

  eight : Row questions 8 ≡ (A × (B × (C × (D → ⊥))))
  eight = refl

  none : Row questions 0 ≡ (A × (B × (C × (D × ◌≡◌ {A = ℕ} 0 0))))
  none = refl

  three : Row questions 3 ≡ (A × (B × (C × (D × ◌≡◌ {A = ℕ} 3 0))))
  three = refl

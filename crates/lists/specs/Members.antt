-- What is said of the entries of a list: which are in it, that none is there twice, that all have a property, that numbers do not fall;
-- and a test of every number below another, as a loop that counts up makes it.
-- Document 01, "Sound tables" ("starts .. never fall"; "items name polygons") and the lists that name an id once.
-- `In` is the library's membership, `List-as-Memᴰ`, in a form that computes: see `in_mem` and `mem_in` of proofs/Members.antt.
-- Assumes nothing.
use Rattle.std.specs.Prelude.{◌≡◌, ◌⊎◌, Bool, true, false, ◌&&◌, ◌||◌, List, [], ◌∷◌, ℕ, zero, suc, ◌+◌, ◌≤◌, ◌<◌, get_or, eqb}

module _ {A : Type 0} where
  -- x is in the list
  abbrev pub In : A → List A → Type 0
  In x [] = ⊥
  In x (y ∷ l) = (x ≡ y) ⊎ In x l

  -- no entry is there twice
  abbrev pub NoDup : List A → Type 0
  NoDup [] = Unit {0}
  NoDup (x ∷ l) = (In x l → ⊥) × NoDup l

  -- every entry has the property
  abbrev pub All : (A → Type 0) → List A → Type 0
  All p [] = Unit {0}
  All p (x ∷ l) = p x × All p l

-- every entry is below n
abbrev pub AllBelow : ℕ → List ℕ → Type 0
AllBelow n l = All (λ x. x < n) l

-- every number below n passes the test
abbrev pub all_to : (ℕ → Bool) → ℕ → Bool
all_to p zero = true
all_to p (suc n) = all_to p n && p n

-- whether x is in the list
abbrev pub holds : ℕ → List ℕ → Bool
holds x [] = false
holds x (y ∷ l) = eqb x y || holds x l

-- the numbers of l do not fall from place c on, for n steps
abbrev pub Rises : List ℕ → ℕ → ℕ → Type 0
Rises l c n = (i : ℕ) → c ≤ i → i < c + n → get_or l i 0 ≤ get_or l (suc i) 0

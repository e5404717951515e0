-- Reading a text from the front: what was read and the bytes that are left, or that the text is not as laid out. No cursor: a text is a list.
-- Definitions only.
use Rattle.std.specs.Prelude.{ℕ, ◌+◌, ◌-◌, ◌*◌, Bool, true, false, cond, ◌&&◌, List, [], ◌∷◌, length, drop, ◌==◌, nat_le}

pub data Parse (A : Type 0) : Type 0 where
  got : A → List ℕ → Parse A
  wrong : Parse A

-- what is read next, where the first was read
abbrev pub and_then : {A B : Type 0} → Parse A → (A → List ℕ → Parse B) → Parse B
and_then (got a t) f = f a t
and_then wrong f = wrong

-- one more in front of a list that was read
abbrev pub join : {A : Type 0} → A → Parse (List A) → Parse (List A)
join a r = and_then r (λ l t. got (a ∷ l) t)

-- whether the text starts with a byte that counts as b: g says what a byte counts as
abbrev pub spells : (ℕ → ℕ) → ℕ → List ℕ → Bool
spells g b [] = false
spells g b (x ∷ t) = g x == b

-- whether the text starts with the byte b itself
abbrev pub starts : ℕ → List ℕ → Bool
starts b t = spells (λ x. x) b t

-- whether the text starts with all bytes of a word
abbrev pub begins : (ℕ → ℕ) → List ℕ → List ℕ → Bool
begins g [] t = true
begins g (b ∷ v) t = spells g b t && begins g v (drop 1 t)

abbrev pub only_if : {A : Type 0} → Bool → (List ℕ → Parse A) → List ℕ → Parse A
only_if true k t = k t
only_if false k t = wrong

-- the text goes on with this word, and k reads what follows it
abbrev pub word : {A : Type 0} → (ℕ → ℕ) → List ℕ → List ℕ → (List ℕ → Parse A) → Parse A
word g v t k = only_if (begins g v t) k (drop (length v) t)

-- ---- decimal digits: 0 is 48 and 9 is 57
abbrev pub is_digit : ℕ → Bool
is_digit b = nat_le 48 b && nat_le b 57

abbrev pub cons_while : Bool → ℕ → List ℕ → List ℕ
cons_while true x l = x ∷ l
cons_while false x l = []

-- the digits that the text starts with, and what follows them
abbrev pub run : List ℕ → List ℕ
run [] = []
run (b ∷ t) = cons_while (is_digit b) b (run t)

abbrev pub past : List ℕ → List ℕ
past [] = []
past (b ∷ t) = cond (is_digit b) (past t) (b ∷ t)

-- the number that digits write after those of a
abbrev pub value_of : ℕ → List ℕ → ℕ
value_of a [] = a
value_of a (b ∷ t) = value_of (a * 10 + (b - 48)) t

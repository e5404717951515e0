-- Lists that stand in lent slices: a part, a list that stands at a place, and a list with a tail of zeros.
-- Document 01: "the rest of each output list is zero and work room is zero"; "a part from first to first plus len".
-- Assumes nothing.
use Rattle.std.specs.Prelude.{◌≡◌, List, ◌++◌, ℕ, ◌-◌, ◌<◌, length, take, drop, replicate}

module _ {A : Type 0} where
  -- the part of l from a up to e, e out, as `&l[a..e]` lends it. `&l[a..]` lends `part a (length l) l`
  abbrev pub part : ℕ → ℕ → List A → List A
  part a e l = take (e - a) (drop a l)

  -- xs stands in l from a on
  abbrev pub Has : List A → ℕ → List A → Type 0
  Has l a xs = take (length xs) (drop a l) ≡ xs

  -- l, and z after it up to the length n
  abbrev pub padded : A → ℕ → List A → List A
  padded z n l = l ++ replicate (n - length l) z

  -- only the stretch from a up to b, b out, was written
  pub record Only (a b : ℕ) (old new : List A) : Type 0 where
    pub long : length new ≡ length old
    pub front : take a new ≡ take a old
    pub rest : drop b new ≡ drop b old

  -- of n entries, read by a rule before and after, the entry i is x now and each other one is as it was
  pub record Stored (before after : ℕ → A) (n i : ℕ) (x : A) : Type 0 where
    pub here : after i ≡ x
    pub others : (j : ℕ) → j < n → (j ≡ i → ⊥) → after j ≡ before j

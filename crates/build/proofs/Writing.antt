-- Lists stored into lent slices: number after number, block after block from the front, and zeros after the last. Assumes nothing.
use mathlib.Core.Path.{◌≡◌, refl, sym, ap, ◌∙◌}
use mathlib.Core.List.{List, [], ◌∷◌, ◌++◌}
use Prim.Native.Nat.{ℕ, suc, ◌+◌, ◌-◌, ◌*◌, ◌≤◌, ◌<◌}
use native.Mathlib.Nat.{zero-add}
use native.Mathlib.Numerals.{add-one}
use native.Mathlib.Omega.{arith}
use lib.ListN.{length, get_or, set, take, drop, length-take, length-drop, replicate, length-replicate}
use lib.Seq.{sets, sets-eq, length-sets, length-take-le, take-suc, take_all, take_at}
use borrow.Rule.Slice.PartMut.{put_mid}
use Rattle.std.proofs.lemmas.Slice.{put_mid-paste}
use Rattle.lists.specs.Lists.{joined, sum_to}
use Rattle.lists.specs.Parts.{padded}
use Rattle.lists.proofs.Joined.{length_joined}
use Rattle.lists.proofs.Stores.{sets_append, sets_front}
use Rattle.lists.proofs.Sums.{sum_to_ext}

module _ {A : Type 0} where
  -- how long blocks are together
  pub blocks_length : (f : ℕ → List A) (w : ℕ → ℕ) (n : ℕ) → ((k : ℕ) → k < n → length (f k) ≡ w k) → length (joined f n) ≡ sum_to w n
  blocks_length f w n h = length_joined f n ∙ sum_to_ext (λ k. length (f k)) w n h

  -- one number more of a list
  next_number : (l : List A) (a : ℕ) (xs : List A) (i : ℕ) (z : A) → i < length xs → set (sets l a (take i xs)) (a + i) (get_or xs i z) ≡ sets l a (take (suc i) xs)
  next_number l a xs i z h =
      let e : length (take i xs) ≡ i = length-take-le i xs (omega arith) in
      rw (take-suc xs i z h, sets_append l a (take i xs) (get_or xs i z ∷ []), e)

  -- one point more of a list of points
  pub next_point : (l : List A) (a : ℕ) (xs : List A) (i at : ℕ) (z : A) (l₁ l₂ l₃ : List A) (x y : A) → l₁ ≡ sets l a (take (2 * i) xs) → l₂ ≡ set l₁ at x → l₃ ≡ set l₂ (at + 1) y
      → at ≡ a + 2 * i → x ≡ get_or xs (2 * i) z → y ≡ get_or xs (2 * i + 1) z → 2 * i + 1 < length xs → l₃ ≡ sets l a (take (2 * (i + 1)) xs)
  next_point l a xs i at z l₁ l₂ l₃ x y e₁ e₂ e₃ p q r h =
      let m : 2 * i + 1 ≡ suc (2 * i) = omega arith in
      let n : 2 * (i + 1) ≡ suc (suc (2 * i)) = omega arith in
      let o : at + 1 ≡ a + suc (2 * i) = omega arith in
      let one : l₂ ≡ sets l a (take (suc (2 * i)) xs) = rw (e₂, e₁, p, q) (next_number l a xs (2 * i) z (omega arith)) in
      rw (e₃, one, o, r, m, n) (next_number l a xs (suc (2 * i)) z (omega arith))

  -- a part filled with one number
  pub filled : (l xs : List A) (a e n : ℕ) (x : A) → e ≡ a + n → e ≤ length l → xs ≡ replicate (length (take (e - a) (drop a l))) x → put_mid a (e - a) l xs ≡ sets l a (replicate n x)
  filled l xs a e n x g h f =
      let k : e - a ≡ n = omega arith in
      let p : length (take (e - a) (drop a l)) ≡ n = simp (length-take, length-drop) (omega arith) in
      let z : length (replicate n x) ≡ n = length-replicate n x in
      put_mid-paste a (e - a) l xs (replicate n x) n (f ∙ ap (λ (m : ℕ). replicate m x) p) (sym k) (sym z) ∙ sym (sets-eq (replicate n x) l a (omega arith) ∙ rw (z, take_all n (replicate n x) (omega arith)))

  -- one block more
  pub next_block : (l : List A) (f : ℕ → List A) (k at : ℕ) (l₁ l₂ xs : List A) → l₁ ≡ sets l 0 (joined f k) → l₂ ≡ sets l₁ at xs → xs ≡ f k → at ≡ length (joined f k) → l₂ ≡ sets l 0 (joined f (k + 1))
  next_block l f k at l₁ l₂ xs e₁ e₂ g h = rw (e₂, e₁, g, h, add-one, sets_append l 0 (joined f k) (f k), zero-add)

  -- a block of two, and one of four, by stores one after the other
  pub two_stores : (l : List A) (at : ℕ) (a b : A) → set (set l at a) (at + 1) b ≡ sets l at (a ∷ b ∷ [])
  two_stores l at a b = rw add-one

  pub four_stores : (l : List A) (at : ℕ) (a b c d : A) → set (set (set (set l at a) (at + 1) b) (at + 2) c) (at + 3) d ≡ sets l at (a ∷ b ∷ c ∷ d ∷ [])
  four_stores l at a b c d =
      let e : at + 2 ≡ suc (suc at) = omega arith in
      let f : at + 3 ≡ suc (suc (suc at)) = omega arith in
      rw (add-one, e, f)

  -- zeros after the last: what clearing from n on makes of a list with xs stored in front
  pub cleared : (z : A) (l xs : List A) (n : ℕ) (e x : List A) → e ≡ sets l 0 xs → x ≡ take n e ++ replicate (length e - n) z → n ≡ length xs → length xs ≤ length l → x ≡ padded z (length l) xs
  cleared z l xs n e x p q r h = rw (q, p, length-sets l 0 xs, sets_front l xs, take_all (length l) xs h, r, take_at xs (drop (length xs) l) (length xs) refl)

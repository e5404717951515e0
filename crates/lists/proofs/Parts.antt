-- Laws of `part` and `Has`: parts of a list, fronts and rests that stay, and a part that was lent and came back.
-- The kit has, over `mid_of` and `put_mid` of borrow.Rule.Slice.PartMut (`mid_of a (e - a) l` is `part a e l`): `mid_len`, the length of a part;
-- `same_len_mid`, `take_put`, `drop-put`, the length, the front and the rest when a part is back; `set_mid_at`, a store in a part.
-- Assumes nothing.
use mathlib.Core.Path.{◌≡◌, refl, sym, ap, ◌∙◌, subst}
use mathlib.Core.Logic.{⊎_elim}
use mathlib.Core.List.{List, [], ◌∷◌, ◌++◌, append-nil, append_assoc}
use Prim.Native.Nat.{ℕ, zero, suc, ◌+◌, ◌-◌, ◌≤◌, ◌<◌, min}
use native.Mathlib.Nat.{sub-zero}
use native.Mathlib.Numerals.{add-one}
use native.Mathlib.Omega.{arith}
use lib.ListN.{length, get_or, set, take, drop, length-drop, drop_of_length-le, take-append-drop}
use lib.Seq.{sets, sets-eq, paste, paste-suc, slice, slice-cons, take_all, take-nil, take-take, take-add, take_at, drop_at, drop-cons, drop-drop, get_or-take, get_or-drop, length-take-le}
use borrow.Rule.Slice.PartMut.{put_mid}
use Rattle.lists.specs.Parts.{part, Has}
use Rattle.lists.proofs.Cases.{lt_or_le}

module _ {A : Type 0} where
  -- ---- a part in other words

  -- the library's `slice`, which takes first and then drops
  pub slice_part : (a e : ℕ) (l : List A) → slice a e l ≡ part a e l
  slice_part zero e l = rw sub-zero
  slice_part (suc a) zero l =
      let z : 0 - suc a ≡ 0 = omega arith in
      rw z
  slice_part (suc a) (suc e) [] = sym (take-nil (suc e - suc a))
  slice_part (suc a) (suc e) (x ∷ l) =
      let z : suc e - suc a ≡ e - a = omega arith in
      rw z (slice_part a e l)

  pub part_first : (e : ℕ) (l : List A) → part 0 e l ≡ take e l
  part_first e l = ap (λ (n : ℕ). take n l) (sub-zero e)

  pub part_from : (a n : ℕ) (l : List A) → part a (a + n) l ≡ take n (drop a l)
  part_from a n l = let e : a + n - a ≡ n = omega arith in ap (λ (q : ℕ). take q (drop a l)) e

  -- what `&l[a..]` lends
  pub part_rest : (a : ℕ) (l : List A) → part a (length l) l ≡ drop a l
  part_rest a l = let k : length (drop a l) ≤ length l - a = simp length-drop (omega arith) in take_all (length l - a) (drop a l) k

  pub part_none : (a e : ℕ) (l : List A) → e ≤ a → part a e l ≡ []
  part_none a e l h = let z : e - a ≡ 0 = omega arith in rw z

  pub get_d_part : (a e : ℕ) (l : List A) (i : ℕ) (d : A) → i < e - a → get_or (part a e l) i d ≡ get_or l (a + i) d
  get_d_part a e l i d h = get_or-take (e - a) (drop a l) i d h ∙ get_or-drop a l i d

  pub part_join : (a b e : ℕ) (l : List A) → a ≤ b → b ≤ e → part a b l ++ part b e l ≡ part a e l
  part_join a b e l h k =
      let s : e - a ≡ (b - a) + (e - b) = omega arith in
      let t : a + (b - a) ≡ b = omega arith in
      sym (ap (λ (n : ℕ). take n (drop a l)) s ∙ take-add (b - a) (e - b) (drop a l)
      ∙ ap (λ (q : List A). part a b l ++ take (e - b) q) (drop-drop (b - a) a l ∙ ap (λ (n : ℕ). drop n l) t))

  -- ---- a part of a front, of a rest and of a part

  pub part_take : (a e n : ℕ) (l : List A) → e ≤ n → part a e (take n l) ≡ part a e l
  part_take a e n l h = sym (slice_part a e (take n l)) ∙ ap (drop a) (take-take e n l h) ∙ slice_part a e l

  pub part_past : (n a e : ℕ) (l : List A) → part (n + a) e l ≡ part a (e - n) (drop n l)
  part_past n a e l =
      let s : e - (n + a) ≡ e - n - a = omega arith in
      ap (λ (q : ℕ). take q (drop (n + a) l)) s ∙ ap (take (e - n - a)) (sym (drop-drop a n l))

  pub part_behind : (n a e : ℕ) (l : List A) → n ≤ a → part a e l ≡ part (a - n) (e - n) (drop n l)
  part_behind n a e l h = let s : a ≡ n + (a - n) = omega arith in ap (λ (q : ℕ). part q e l) s ∙ part_past n (a - n) e l

  pub part_drop : (n a e : ℕ) (l : List A) → part a e (drop n l) ≡ part (n + a) (n + e) l
  part_drop n a e l = let s : n + e - n ≡ e = omega arith in sym (part_past n a (n + e) l ∙ ap (λ (q : ℕ). part a q (drop n l)) s)

  pub part_part : (n m a e : ℕ) (l : List A) → e ≤ m - n → part a e (part n m l) ≡ part (n + a) (n + e) l
  part_part n m a e l h = part_take a e (m - n) (drop n l) h ∙ part_drop n a e l

  -- ---- lists with the same front, and lists with the same rest

  pub front_less : (m n : ℕ) (l k : List A) → m ≤ n → take n l ≡ take n k → take m l ≡ take m k
  front_less m n l k h e = sym (take-take m n l h) ∙ ap (take m) e ∙ take-take m n k h

  pub front_get_d : (n : ℕ) (l k : List A) (i : ℕ) (d : A) → i < n → take n l ≡ take n k → get_or l i d ≡ get_or k i d
  front_get_d n l k i d h e = sym (get_or-take n l i d h) ∙ ap (λ (q : List A). get_or q i d) e ∙ get_or-take n k i d h

  pub front_part : (n a e : ℕ) (l k : List A) → e ≤ n → take n l ≡ take n k → part a e l ≡ part a e k
  front_part n a e l k h q = sym (part_take a e n l h) ∙ ap (part a e) q ∙ part_take a e n k h

  pub rest_more : (m n : ℕ) (l k : List A) → m ≤ n → drop m l ≡ drop m k → drop n l ≡ drop n k
  rest_more m n l k h e =
      let s : m + (n - m) ≡ n = omega arith in
      subst (λ (q : ℕ). drop q l ≡ drop q k) s (sym (drop-drop (n - m) m l) ∙ ap (drop (n - m)) e ∙ drop-drop (n - m) m k)

  pub rest_get_d : (m : ℕ) (l k : List A) (i : ℕ) (d : A) → m ≤ i → drop m l ≡ drop m k → get_or l i d ≡ get_or k i d
  rest_get_d m l k i d h e =
      let s : m + (i - m) ≡ i = omega arith in
      subst (λ (q : ℕ). get_or l q d ≡ get_or k q d) s (sym (get_or-drop m l (i - m) d) ∙ ap (λ (q : List A). get_or q (i - m) d) e ∙ get_or-drop m k (i - m) d)

  -- an entry at a time, as the code counts
  pub drop_here : (l : List A) (i : ℕ) (d : A) → i < length l → drop i l ≡ get_or l i d ∷ drop (i + 1) l
  drop_here l i d h = drop-cons l i d h ∙ ap (λ (n : ℕ). get_or l i d ∷ drop n l) (sym (add-one i))

  pub part_here : (a e : ℕ) (l : List A) (d : A) → a < e → e ≤ length l → part a e l ≡ get_or l a d ∷ part (a + 1) e l
  part_here a e l d h k =
      sym (slice_part a e l) ∙ slice-cons a e l d h k ∙ ap (λ (q : List A). get_or l a d ∷ q) (slice_part (suc a) e l) ∙ ap (λ (n : ℕ). get_or l a d ∷ part n e l) (sym (add-one a))

  -- a part and what is behind it
  pub part_then : (a e : ℕ) (l : List A) → a ≤ e → part a e l ++ drop e l ≡ drop a l
  part_then a e l h =
      let s : e ≡ a + (e - a) = omega arith in
      ap (λ (n : ℕ). part a e l ++ drop n l) s ∙ ap (λ (q : List A). part a e l ++ q) (sym (drop-drop (e - a) a l)) ∙ take-append-drop (e - a) (drop a l)

  -- ---- a list that stands at a place

  -- a stretch of a front is a stretch of the whole
  pub front_cut : (n a b : ℕ) (l : List A) → a + n ≤ b → take n (drop a (take b l)) ≡ take n (drop a l)
  front_cut n a b l h = sym (part_from a n (take b l)) ∙ part_take a (a + n) b l h ∙ part_from a n l

  -- what stands in the front stays where the front stays
  pub stays : (xs : List A) (a b : ℕ) (l k : List A) → a + length xs ≤ b → take b k ≡ take b l → Has l a xs → Has k a xs
  stays xs a b l k h e p = sym (front_cut (length xs) a b k h) ∙ ap (λ (q : List A). take (length xs) (drop a q)) e ∙ front_cut (length xs) a b l h ∙ p

  -- what was stored stands there
  pub laid : (l : List A) (i : ℕ) (xs : List A) → i + length xs ≤ length l → Has (sets l i xs) i xs
  laid l i xs h =
      ap (λ (q : List A). take (length xs) (drop i q)) (sets-eq xs l i h ∙ append_assoc (take i l) xs (drop (i + length xs) l))
      ∙ ap (take (length xs)) (drop_at (take i l) (xs ++ drop (i + length xs) l) i (length-take-le i l (omega arith)))
      ∙ take_at xs (drop (i + length xs) l) (length xs) refl

  -- and what was put in a part's place
  pub put_laid : (a n : ℕ) (l xs : List A) → a ≤ length l → Has (put_mid a n l xs) a xs
  put_laid a n l xs h =
      ap (take (length xs)) (drop_at (take a l) (xs ++ drop n (drop a l)) a (length-take-le a l h)) ∙ take_at xs (drop n (drop a l)) (length xs) refl

  pub get_d_has : (l : List A) (a : ℕ) (xs : List A) (i : ℕ) (d : A) → Has l a xs → i < length xs → get_or l (a + i) d ≡ get_or xs i d
  get_d_has l a xs i d p h = sym (get_or-drop a l i d) ∙ sym (get_or-take (length xs) (drop a l) i d h) ∙ ap (λ (q : List A). get_or q i d) p

  -- both ends held to the list's length: the same part
  pub part_held : (l : List A) (a z p q : ℕ) → p ≡ min a (length l) → q ≡ min z (length l) → part p q l ≡ part a z l
  part_held l a z p q e f = ⊎_elim past within (lt_or_le (length l) a)
    where
      none : (l : List A) (m n : ℕ) → length l ≤ n → take m (drop n l) ≡ []
      none l m n h = ap (take m) (drop_of_length-le l h) ∙ take-nil m

      past : length l < a → part p q l ≡ part a z l
      past h = none l (q - p) p (omega arith) ∙ sym (none l (z - a) a (omega arith))

      whole : (k : ℕ) → length l - a ≤ k → take k (drop a l) ≡ drop a l
      whole k h = take_all k (drop a l) (simp length-drop h)

      within : a ≤ length l → part p q l ≡ part a z l
      within h =
          let i : p ≡ a = omega arith in
          ap (λ (n : ℕ). part n q l) i
          ∙ ⊎_elim
          (λ k. let j : q ≡ z = omega arith in ap (λ (n : ℕ). part a n l) j)
          (λ k. whole (q - a) (omega arith) ∙ sym (whole (z - a) (omega arith)))
          (lt_or_le z (length l))

  -- ---- the rest from a on was lent, `&mut l[a..]`, and came back as v

  pub back : (a : ℕ) (l v : List A) → put_mid a (length l - a) l v ≡ take a l ++ v
  back a l v =
      let k : length (drop a l) ≤ length l - a = simp length-drop (omega arith) in
      ap (λ (q : List A). take a l ++ (v ++ q)) (drop_of_length-le (drop a l) k) ∙ ap (λ (q : List A). take a l ++ q) (append-nil v)

  pub back_rest : (a : ℕ) (l v : List A) → a ≤ length l → drop a (put_mid a (length l - a) l v) ≡ v
  back_rest a l v h = ap (drop a) (back a l v) ∙ drop_at (take a l) v a (length-take-le a l h)

  -- ---- a loop that copies s over d from a place on

  pub paste_more : (d : List A) (at : ℕ) (s : List A) (j : ℕ) (z : A) {l : List A} {v : A} {k : ℕ}
      → l ≡ paste d at s j → k ≡ at + j → v ≡ get_or s j z → at + j < length d → j < length s → set l k v ≡ paste d at s (j + 1)
  paste_more d at s j z e ek ev hd hs = rw (e, ek, ev, add-one) (paste-suc d at s j z hd hs)

  pub paste_front : (d : List A) (at : ℕ) (s : List A) (n : ℕ) → at ≤ length d → take at (paste d at s n) ≡ take at d
  paste_front d at s n h = rw append_assoc (take_at (take at d) (take n s ++ drop (at + n) d) at (length-take-le at d h))

  pub paste_part : (d : List A) (at : ℕ) (s : List A) (n : ℕ) → at ≤ length d → n ≤ length s → take n (drop at (paste d at s n)) ≡ take n s
  paste_part d at s n h k =
      ap (λ (l : List A). take n (drop at l)) (append_assoc (take at d) (take n s) (drop (at + n) d))
      ∙ ap (take n) (drop_at (take at d) (take n s ++ drop (at + n) d) at (length-take-le at d h))
      ∙ take_at (take n s) (drop (at + n) d) n (length-take-le n s k)

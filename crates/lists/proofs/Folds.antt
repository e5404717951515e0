-- Folding a list from a place on, an entry at a time, as a loop that counts up meets it. Assumes nothing.
use mathlib.Core.Path.{◌≡◌, refl}
use mathlib.Core.Bool.{Bool, true, false, cond}
use mathlib.Core.List.{List, foldl}
use Prim.Native.Nat.{ℕ, ◌+◌, ◌≤◌, ◌<◌}
use lib.ListN.{length, get_or, drop, drop_of_length-le}
use Rattle.lists.specs.Lists.{cons_if, filter}
use Rattle.lists.proofs.Parts.{drop_here}

module _ {A B : Type 0} (f : B → A → B) where
  pub fold_next : (l : List A) (i : ℕ) (d : A) (s : B) → i < length l → foldl f s (drop i l) ≡ foldl f (f s (get_or l i d)) (drop (i + 1) l)
  fold_next l i d s h = rw (drop_here l i d h)

  pub fold_end : (l : List A) (i : ℕ) (s : B) → length l ≤ i → foldl f s (drop i l) ≡ s
  fold_end l i s h = rw (drop_of_length-le l h)

  kept_by : (s : B) (x : A) (l : List A) (b : Bool) → foldl f s (cons_if b x l) ≡ foldl f (cond b (f s x) s) l
  kept_by s x l true = refl
  kept_by s x l false = refl

  -- the same over the entries that pass a test
  pub filtered_next
      : (p : A → Bool) (l : List A) (i : ℕ) (d : A) (s : B) → i < length l
      → foldl f s (filter p (drop i l)) ≡ foldl f (cond (p (get_or l i d)) (f s (get_or l i d)) s) (filter p (drop (i + 1) l))
  filtered_next p l i d s h = rw (drop_here l i d h) (kept_by s (get_or l i d) (filter p (drop (i + 1) l)) (p (get_or l i d)))

  pub filtered_end : (p : A → Bool) (l : List A) (i : ℕ) (s : B) → length l ≤ i → foldl f s (filter p (drop i l)) ≡ s
  filtered_end p l i s h = rw (drop_of_length-le l h)

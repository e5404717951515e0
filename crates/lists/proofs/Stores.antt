-- Laws of stores, `set` and `sets`, beside those of lib.Seq.
-- Assumes nothing.
use mathlib.Core.Path.{◌≡◌, refl, sym, ap, ◌∙◌, subst}
use mathlib.Core.Logic.{⊎_elim}
use mathlib.Core.List.{List, [], ◌∷◌, ◌++◌}
use Prim.Native.Nat.{ℕ, suc, ◌+◌, ◌<◌}
use native.Mathlib.Nat.{zero-add, suc-add, add-zero, add-suc}
use lib.Ieee.{nan, binary64, div, of_bits}
use lib.ListN.{length, get_or, set, take, drop}
use lib.Seq.{sets, set_out, get_or-set_same, get_or-set_other, set-append_left, drop-nil}
use Rattle.num.specs.Ops.{zero_f}
use Rattle.lists.proofs.Cases.{lt_or_le, eq_or_ne}

-- the default of a float, as the code makes it
pub no_float : div binary64 zero_f zero_f ≡ nan
unfolding div of_bits
no_float = refl

module _ {A : Type 0} where
  -- after a store of v a place holds v or what it held: what both have, it has
  pub get_d_set_either : (P : A → Type 0) (l : List A) (i j : ℕ) (v d : A) → P v → P (get_or l j d) → P (get_or (set l i v) j d)
  get_d_set_either P l i j v d h k = ⊎_elim same (λ n. subst P (sym (get_or-set_other l i j v d n)) k) (eq_or_ne j i)
    where
      same : j ≡ i → P (get_or (set l i v) j d)
      same e =
          ⊎_elim
          (λ r. subst P (sym (ap (λ (q : ℕ). get_or (set l i v) q d) e ∙ get_or-set_same l i v d r)) h)
          (λ r. subst P (sym (ap (λ (q : List A). get_or q j d) (set_out l i v r))) k)
          (lt_or_le i (length l))

  -- a store into the second of two lists, and into the middle of three
  pub set_append_add : (xs ys : List A) (i : ℕ) (v : A) → set (xs ++ ys) (length xs + i) v ≡ xs ++ set ys i v
  set_append_add [] ys i v = rw zero-add
  set_append_add (x ∷ xs) ys i v = rw suc-add (ap (λ (t : List A). x ∷ t) (set_append_add xs ys i v))

  pub set_middle : (xs ys zs : List A) (n i : ℕ) (v : A) → length xs ≡ n → i < length ys → set (xs ++ (ys ++ zs)) (n + i) v ≡ xs ++ (set ys i v ++ zs)
  set_middle xs ys zs n i v e h = rw (sym e, set_append_add, set-append_left ys zs i v h)

  -- ---- a run of stores

  pub sets_append : (l : List A) (i : ℕ) (xs ys : List A) → sets l i (xs ++ ys) ≡ sets (sets l i xs) (i + length xs) ys
  sets_append l i [] ys = rw add-zero
  sets_append l i (x ∷ xs) ys = rw (add-suc, ← suc-add) (sets_append (set l i x) (suc i) xs ys)

  sets_cons : (x : A) (l : List A) (i : ℕ) (xs : List A) → sets (x ∷ l) (suc i) xs ≡ x ∷ sets l i xs
  sets_cons x l i [] = refl
  sets_cons x l i (y ∷ xs) = sets_cons x (set l i y) (suc i) xs

  sets_nil : (i : ℕ) (xs : List A) → sets [] i xs ≡ []
  sets_nil i [] = refl
  sets_nil i (x ∷ xs) = sets_nil (suc i) xs

  -- a list stored from 0 on: as much of it as there is room for, and then what was there
  pub sets_front : (l xs : List A) → sets l 0 xs ≡ take (length l) xs ++ drop (length xs) l
  sets_front [] xs = sets_nil 0 xs ∙ sym (drop-nil (length xs))
  sets_front (x ∷ l) [] = refl
  sets_front (x ∷ l) (y ∷ xs) = sets_cons y l 0 xs ∙ ap (λ (t : List A). y ∷ t) (sets_front l xs)

-- First meetings, cell after cell: where each cell's ids are met in turn, those met first are those that no earlier cell had. Assumes nothing.
use mathlib.Core.Path.{◌≡◌, refl, sym, ap, ◌∙◌}
use mathlib.Core.Logic.{◌⊎◌, inl, inr, ⊎_elim}
use mathlib.Core.Bool.{Bool, true, false, not, ◌&&◌, true≢false}
use mathlib.Core.List.{List, [], ◌∷◌}
use Prim.Native.Nat.{ℕ, zero, suc, ◌≤◌, ◌<◌}
use native.Mathlib.Omega.{arith}
use lib.Dec.{eqb}
use lib.ListN.{length, get_or, set, length-set}
use lib.Seq.{get_or-set_same, get_or-set_other}
use borrow.Author.Tests.{eqb-true, eqb-false, eq-eqb, ne_eqb}
use Rattle.lists.specs.Lists.{cons_if, counting, filter, joined}
use Rattle.lists.specs.Members.{In, NoDup}
use Rattle.lists.proofs.Cases.{eq_or_ne}
use Rattle.lists.proofs.AllTo.{both}
use Rattle.lists.proofs.Members.{in_all}
use Rattle.lists.proofs.Stores.{get_d_set_either}
use Rattle.lists.proofs.Counting.{all_counting, in_counting, nodup_counting, nodup_filter, filter_ext, filter_in, in_filter}
use Rattle.grid.specs.Stamps.{stamped, firsts}
use Rattle.grid.proofs.Stamping.{seen_firsts, new_firsts, firsts_nil, stamped_nil, stamped_cons, stamped_append, firsts_append, length_stamped}

-- two tests agree where each follows from the other
same_test : (a b : Bool) → (a ≡ true → b ≡ true) → (b ≡ true → a ≡ true) → a ≡ b
same_test true b f g = sym (f refl)
same_test false true f g = g refl
same_test false false f g = refl

-- ---- ids of which none is there twice: those met first are those without a stamp
module _ (e : ℕ) where
  abbrev bare : List ℕ → ℕ → Bool
  bare m x = not (eqb (get_or m x 0) e)

  bare_by : (m : List ℕ) (x : ℕ) (xs : List ℕ) (b : Bool) → eqb (get_or m x 0) e ≡ b → (In x xs → ⊥)
      → firsts e m xs ≡ filter (bare m) xs → firsts e (set m x e) xs ≡ filter (bare (set m x e)) xs → firsts e m (x ∷ xs) ≡ filter (bare m) (x ∷ xs)
  bare_by m x xs true t new f g = seen_firsts e m x xs (eqb-true _ _ t) ∙ f ∙ ap (λ (b : Bool). cons_if (not b) x (filter (bare m) xs)) (sym t)
  bare_by m x xs false t new f g =
      new_firsts e m x xs (eqb-false _ _ t)
      ∙ ap (λ (l : List ℕ). x ∷ l) (g ∙ filter_ext (bare (set m x e)) (bare m) xs (in_all _ xs (λ y i. ap (λ (v : ℕ). not (eqb v e)) (get_or-set_other m x y e 0 (λ k. new (rw k at i))))))
      ∙ ap (λ (b : Bool). cons_if (not b) x (filter (bare m) xs)) (sym t)

  first_ids : (m xs : List ℕ) → NoDup xs → firsts e m xs ≡ filter (bare m) xs
  first_ids m [] d = firsts_nil e m
  first_ids m (x ∷ xs) d = bare_by m x xs _ refl d.0 (first_ids m xs d.1) (first_ids (set m x e) xs d.1)

  -- an id bears a stamp after the meeting exactly if it did before or was met
  stamped_to : (m xs : List ℕ) (x : ℕ) → x < length m → get_or (stamped e m xs) x 0 ≡ e → (get_or m x 0 ≡ e) ⊎ In x xs
  stamped_to m [] x l h = inl (rw stamped_nil at h)
  stamped_to m (y ∷ ys) x l h =
      ⊎_elim
      (λ k. ⊎_elim (λ q. inr (inl q)) (λ q. inl (sym (get_or-set_other m y x e 0 q) ∙ k)) (eq_or_ne x y))
      (λ k. inr (inr k))
      (stamped_to (set m y e) ys x (rw length-set l) (rw stamped_cons at h))

  stamped_from : (m xs : List ℕ) (x : ℕ) → x < length m → (get_or m x 0 ≡ e) ⊎ In x xs → get_or (stamped e m xs) x 0 ≡ e
  stamped_from m [] x l h = rw stamped_nil (⊎_elim (λ k. k) (λ k. absurd k) h)
  stamped_from m (y ∷ ys) x l h =
      rw stamped_cons
      (stamped_from (set m y e) ys x (rw length-set l)
      (⊎_elim
      (λ k. inl (get_d_set_either (λ (v : ℕ). v ≡ e) m y x e 0 refl k))
      (λ k. ⊎_elim (λ (q : x ≡ y). inl (rw q (get_or-set_same m y e 0 (rw q at l)))) (λ q. inr q) k)
      h))

-- a test within a test
filter_filter : {A : Type 0} (p q : A → Bool) (l : List A) → filter q (filter p l) ≡ filter (λ x. p x && q x) l
filter_filter p q [] = refl
filter_filter p q (x ∷ l) = by (p x) (filter_filter p q l)
  where
    by : (b : Bool) → filter q (filter p l) ≡ filter (λ y. p y && q y) l → filter q (cons_if b x (filter p l)) ≡ cons_if (b && q x) x (filter (λ y. p y && q y) l)
    by true h = ap (cons_if (q x) x) h
    by false h = h

-- ---- the marks, while cells are met: of the ids below n, those with P are stamped
module _ (e n : ℕ) where
  pub record Met (P : ℕ → Type 0) (m : List ℕ) : Type 0 where
    pub long : n ≤ length m
    pub to : (x : ℕ) → x < n → get_or m x 0 ≡ e → P x
    pub from : (x : ℕ) → x < n → P x → get_or m x 0 ≡ e

  -- meeting F lists R, and takes P to Q
  abbrev pub Meets : List ℕ → List ℕ → (ℕ → Type 0) → (ℕ → Type 0) → Type 0
  Meets F R P Q = (m : List ℕ) → Met P m → (firsts e m F ≡ R) × Met Q (stamped e m F)

  -- one cell, with the ids of C: of those, R are new
  pub meets_cell : (C R : ℕ → Bool) (P Q : ℕ → Type 0)
      → ((x : ℕ) → x < n → C x ≡ true → (P x → ⊥) → R x ≡ true) → ((x : ℕ) → x < n → R x ≡ true → (C x ≡ true) × (P x → ⊥))
      → ((x : ℕ) → x < n → Q x → P x ⊎ (C x ≡ true)) → ((x : ℕ) → x < n → P x ⊎ (C x ≡ true) → Q x)
      → Meets (filter C (counting 0 n)) (filter R (counting 0 n)) P Q
  meets_cell C R P Q new old split join m t = (
    first_ids e m (filter C (counting 0 n)) (nodup_filter C (counting 0 n) (nodup_counting 0 n))
        ∙ filter_filter C (bare e m) (counting 0 n)
        ∙ filter_ext (λ x. C x && bare e m x) R (counting 0 n) (all_counting _ 0 n (λ x g l. agree x (omega arith))),
    record { long = rw length_stamped t.long; to = λ x l h. to x l h; from = λ x l h. from x l h },
  )
    where
      in_cell : (x : ℕ) → x < n → C x ≡ true → In x (filter C (counting 0 n))
      in_cell x l h = in_filter C x (counting 0 n) (in_counting x 0 n (omega arith) (omega arith)) h

      to : (x : ℕ) → x < n → get_or (stamped e m (filter C (counting 0 n))) x 0 ≡ e → Q x
      to x l h =
          let long : n ≤ length m = t.long in
          join x l (⊎_elim (λ k. inl (t.to x l k)) (λ k. inr (filter_in C x (counting 0 n) k).1) (stamped_to e m (filter C (counting 0 n)) x (omega arith) h))

      from : (x : ℕ) → x < n → Q x → get_or (stamped e m (filter C (counting 0 n))) x 0 ≡ e
      from x l h =
          let long : n ≤ length m = t.long in
          stamped_from e m (filter C (counting 0 n)) x (omega arith) (⊎_elim (λ k. inl (t.from x l k)) (λ k. inr (in_cell x l k)) (split x l h))

      is_bare : (x : ℕ) → (get_or m x 0 ≡ e → ⊥) → bare e m x ≡ true
      is_bare x h = ap not (ne_eqb _ _ h)

      not_bare : (x : ℕ) → get_or m x 0 ≡ e → bare e m x ≡ false
      not_bare x h = ap not (eq-eqb _ _ h)

      agree : (x : ℕ) → x < n → (C x && bare e m x) ≡ R x
      agree x l =
          same_test (C x && bare e m x) (R x)
          (λ h. let k = both (C x) (bare e m x) h in new x l k.0 (λ p. true≢false (sym k.1 ∙ not_bare x (t.from x l p))))
          (λ h. let k = old x l h in rw (k.0, is_bare x (λ q. k.1 (t.to x l q))))

  -- the same, said of states that are the same
  pub meets_then : (F R : List ℕ) (P Q S : ℕ → Type 0) → ((x : ℕ) → x < n → Q x → S x) → ((x : ℕ) → x < n → S x → Q x) → Meets F R P Q → Meets F R P S
  meets_then F R P Q S f g h m t =
      let u = h m t in
      (u.0, record { long = u.1.long; to = λ x l k. f x l (u.1.to x l k); from = λ x l k. u.1.from x l (g x l k) })

  -- one after the other
  pub meets_all : (F R : ℕ → List ℕ) (P : ℕ → ℕ → Type 0) (k : ℕ) → ((j : ℕ) → j < k → Meets (F j) (R j) (P j) (P (suc j))) → Meets (joined F k) (joined R k) (P 0) (P k)
  meets_all F R P zero h m t = (firsts_nil e m, rw stamped_nil t)
  meets_all F R P (suc k) h m t =
      let a = meets_all F R P k (λ j l. h j (omega arith)) m t in
      let b = h k (omega arith) (stamped e m (joined F k)) a.1 in
      (firsts_append e m (joined F k) (F k) ∙ rw (a.0, b.0), rw stamped_append b.1)

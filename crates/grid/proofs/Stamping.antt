-- Stamping, an entry at a time and by joined lists; and the loops that stamp: what the entries still to be met give is what all of them give
-- from the start. `rest` is what is left of `all`; one record serves every loop that walks entries, by entries or by rows. Assumes nothing.
use Prim.Native.Nat.{ℕ, ◌+◌, ◌≤◌}
use mathlib.Core.Path.{◌≡◌, refl, ap, sym, ◌∙◌}
use mathlib.Core.List.{List, [], ◌∷◌, ◌++◌}
use mathlib.Core.Bool.{Bool, true, false, not, cond, true≢false}
use native.Mathlib.Omega.{arith}
use native.Mathlib.Numerals.{add-one}
use native.Mathlib.Nat.{add_assoc}
use lib.ListN.{length, get_or, set, length-set, length-append, get_or-eq_default}
use lib.Seq.{sets, set-get_or, set_out, length-sets}
use lib.Dec.{eqb}
use borrow.Author.Tests.{eq-eqb, ne_eqb, eqb-true, eqb-false}
use Rattle.lists.proofs.Stores.{sets_append}
use Rattle.grid.specs.Stamps.{unseen, stamped, firsts}

-- ---- one entry

pub seen_firsts : (e : ℕ) (m : List ℕ) (x : ℕ) (xs : List ℕ) → get_or m x 0 ≡ e → firsts e m (x ∷ xs) ≡ firsts e m xs
unfolding firsts
seen_firsts e m x xs h = rw (eq-eqb (get_or m x 0) e h)

pub new_firsts : (e : ℕ) (m : List ℕ) (x : ℕ) (xs : List ℕ) → (get_or m x 0 ≡ e → ⊥) → firsts e m (x ∷ xs) ≡ x ∷ firsts e (set m x e) xs
unfolding firsts
new_firsts e m x xs h = rw (ne_eqb (get_or m x 0) e h)

pub seen_stamped : (e : ℕ) (m : List ℕ) (x : ℕ) (xs : List ℕ) → get_or m x 0 ≡ e → stamped e m (x ∷ xs) ≡ stamped e m xs
unfolding stamped
seen_stamped e m x xs h = ap (λ (l : List ℕ). stamped e l xs) (ap (set m x) (sym h) ∙ set-get_or m x 0)

pub stamped_cons : (e : ℕ) (m : List ℕ) (x : ℕ) (xs : List ℕ) → stamped e m (x ∷ xs) ≡ stamped e (set m x e) xs
unfolding stamped
stamped_cons e m x xs = refl

pub stamped_nil : (e : ℕ) (m : List ℕ) → stamped e m [] ≡ m
unfolding stamped
stamped_nil e m = refl

pub firsts_nil : (e : ℕ) (m : List ℕ) → firsts e m [] ≡ []
unfolding firsts
firsts_nil e m = refl

-- `mark`: seen, new, and without a mark of its own
pub mark_seen : (e : ℕ) (m : List ℕ) (x : ℕ) → get_or m x 0 ≡ e → (false ≡ unseen e m x) × (m ≡ set m x e)
mark_seen e m x h = (rw (eq-eqb (get_or m x 0) e h), sym (ap (set m x) (sym h) ∙ set-get_or m x 0))

pub mark_new : (e : ℕ) (m : List ℕ) (x : ℕ) → (get_or m x 0 ≡ e → ⊥) → true ≡ unseen e m x
mark_new e m x h = rw (ne_eqb (get_or m x 0) e h)

pub mark_off : (e : ℕ) (m : List ℕ) (x : ℕ) → length m ≤ x → (not (eqb 0 e) ≡ unseen e m x) × (m ≡ set m x e)
mark_off e m x h = (rw (get_or-eq_default m 0 {n = x} h), sym (set_out m x e h))

-- ---- joined lists

pub stamped_append : (e : ℕ) (m xs ys : List ℕ) → stamped e m (xs ++ ys) ≡ stamped e (stamped e m xs) ys
unfolding stamped
stamped_append e m [] ys = refl
stamped_append e m (x ∷ xs) ys = stamped_append e (set m x e) xs ys

-- by the test at the entry, and then on
firsts_pick : (e : ℕ) (m : List ℕ) (x : ℕ) (xs ys : List ℕ) (b : Bool) → eqb (get_or m x 0) e ≡ b
    → firsts e m (xs ++ ys) ≡ firsts e m xs ++ firsts e (stamped e m xs) ys
    → firsts e (set m x e) (xs ++ ys) ≡ firsts e (set m x e) xs ++ firsts e (stamped e (set m x e) xs) ys
    → firsts e m (x ∷ (xs ++ ys)) ≡ firsts e m (x ∷ xs) ++ firsts e (stamped e m (x ∷ xs)) ys
firsts_pick e m x xs ys true t p q =
    let h : get_or m x 0 ≡ e = eqb-true _ _ t in
    rw (seen_firsts e m x (xs ++ ys) h, seen_firsts e m x xs h, seen_stamped e m x xs h) p
firsts_pick e m x xs ys false t p q =
    let h : get_or m x 0 ≡ e → ⊥ = eqb-false _ _ t in
    rw (new_firsts e m x (xs ++ ys) h, new_firsts e m x xs h, stamped_cons) (ap (◌∷◌ x) q)

pub firsts_append : (e : ℕ) (m xs ys : List ℕ) → firsts e m (xs ++ ys) ≡ firsts e m xs ++ firsts e (stamped e m xs) ys
unfolding firsts stamped
firsts_append e m [] ys = refl
firsts_append e m (x ∷ xs) ys = firsts_pick e m x xs ys _ refl (firsts_append e m xs ys) (firsts_append e (set m x e) xs ys)

pub length_stamped : (e : ℕ) (m xs : List ℕ) → length (stamped e m xs) ≡ length m
unfolding stamped
length_stamped e m [] = refl
length_stamped e m (x ∷ xs) = length_stamped e (set m x e) xs ∙ length-set m x e

-- there are at most as many first meetings as entries
length_pick : (b : Bool) (s t : List ℕ) (n : ℕ) → length s ≤ n → length t ≤ n → length (cond b s t) ≤ n
length_pick true s t n p q = p
length_pick false s t n p q = q

pub length_firsts : (e : ℕ) (m xs : List ℕ) → length (firsts e m xs) ≤ length xs
unfolding firsts
length_firsts e m [] = omega arith
length_firsts e m (x ∷ xs) =
    length_pick (eqb (get_or m x 0) e) _ _ _ (omega (arith, length_firsts e m xs)) (omega (arith, length_firsts e (set m x e) xs))

-- ---- loops

pub record Left (all rest marks₀ : List ℕ) (e : ℕ) (ids₀ : List ℕ) (n : ℕ) (marks ids : List ℕ) (at : ℕ) : Type 0 where
  pub marks_len : length marks ≡ length marks₀
  pub ids_len : length ids ≡ length ids₀
  pub marks_left : stamped e marks rest ≡ stamped e marks₀ all
  pub count_left : at + length (firsts e marks rest) ≡ n + length (firsts e marks₀ all)
  pub ids_left : sets ids at (firsts e marks rest) ≡ sets ids₀ n (firsts e marks₀ all)

pub begun : (all marks : List ℕ) (e : ℕ) (ids : List ℕ) (n : ℕ) → Left all all marks e ids n marks ids n
begun all marks e ids n = record { marks_len = refl; ids_len = refl; marks_left = refl; count_left = refl; ids_left = refl }

-- the same at values that are equal to these
pub moved : {all rest rest' marks₀ ids₀ marks marks' ids ids' : List ℕ} {e n at at' : ℕ} → Left all rest marks₀ e ids₀ n marks ids at
    → rest' ≡ rest → marks' ≡ marks → ids' ≡ ids → at' ≡ at → Left all rest' marks₀ e ids₀ n marks' ids' at'
moved l o p q r = rw (o, p, q, r) l

not_false : (b : Bool) → not b ≡ false → b ≡ true
not_false true h = refl
not_false false h = absurd (true≢false h)

module _ {all xs marks₀ ids₀ marks ids : List ℕ} {e n at x : ℕ} where
  -- the entry bears the epoch's stamp
  pub seen : Left all (x ∷ xs) marks₀ e ids₀ n marks ids at → get_or marks x 0 ≡ e → Left all xs marks₀ e ids₀ n marks ids at
  seen l t = record {
    marks_len = l.marks_len;
    ids_len = l.ids_len;
    marks_left = rw (seen_stamped e marks x xs t) at l.marks_left;
    count_left = rw (seen_firsts e marks x xs t) at l.count_left;
    ids_left = rw (seen_firsts e marks x xs t) at l.ids_left;
  }

  -- it does not: it is stamped, and written where there is room
  pub new : Left all (x ∷ xs) marks₀ e ids₀ n marks ids at → (get_or marks x 0 ≡ e → ⊥)
      → Left all xs marks₀ e ids₀ n (set marks x e) (set ids at x) (at + 1)
  new l t = record {
    marks_len = length-set marks x e ∙ l.marks_len;
    ids_len = length-set ids at x ∙ l.ids_len;
    marks_left = rw stamped_cons at l.marks_left;
    count_left = omega (arith, rw (new_firsts e marks x xs t) at l.count_left);
    ids_left = rw (add-one at) (rw (new_firsts e marks x xs t) at l.ids_left);
  }

  -- by what `mark` says of it
  pub met_new : Left all (x ∷ xs) marks₀ e ids₀ n marks ids at → unseen e marks x ≡ true
      → Left all xs marks₀ e ids₀ n (set marks x e) (set ids at x) (at + 1)
  met_new l t = new l (λ h. true≢false (sym t ∙ sym (mark_seen e marks x h).0))

  pub met_seen : Left all (x ∷ xs) marks₀ e ids₀ n marks ids at → unseen e marks x ≡ false → Left all xs marks₀ e ids₀ n (set marks x e) ids at
  met_seen l t =
      let h : get_or marks x 0 ≡ e = eqb-true _ _ (not_false (eqb (get_or marks x 0) e) t) in
      moved (seen l h) refl (sym (mark_seen e marks x h).1) refl refl

-- a whole part xs is met
pub part : (xs : List ℕ) {all ys marks₀ ids₀ marks ids : List ℕ} {e n at : ℕ} → Left all (xs ++ ys) marks₀ e ids₀ n marks ids at
    → Left all ys marks₀ e ids₀ n (stamped e marks xs) (sets ids at (firsts e marks xs)) (at + length (firsts e marks xs))
part xs {marks = marks} {ids = ids} {e = e} {at = at} l = record {
  marks_len = length_stamped e marks xs ∙ l.marks_len;
  ids_len = length-sets ids at (firsts e marks xs) ∙ l.ids_len;
  marks_left = rw stamped_append at l.marks_left;
  count_left = rw add_assoc (rw (firsts_append, length-append) at l.count_left);
  ids_left = rw (firsts_append, sets_append) at l.ids_left;
}

-- at the end nothing is left
module _ {all marks₀ ids₀ marks ids : List ℕ} {e n at : ℕ} (l : Left all [] marks₀ e ids₀ n marks ids at) where
  pub end_marks : marks ≡ stamped e marks₀ all
  end_marks = rw stamped_nil at l.marks_left

  pub end_count : at ≡ n + length (firsts e marks₀ all)
  end_count = omega (arith, rw firsts_nil at l.count_left)

  pub end_ids : ids ≡ sets ids₀ n (firsts e marks₀ all)
  end_ids = rw firsts_nil at l.ids_left

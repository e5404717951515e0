-- Laws of `joined` and `listed`: lists joined block by block, as a grid's items and an index's references are.
-- Assumes nothing.
use mathlib.Core.Path.{◌≡◌, refl, sym, ap, ◌∙◌, subst, subst⁻¹}
use mathlib.Core.Logic.{⊎_elim}
use mathlib.Core.List.{List, [], ◌∷◌, ◌++◌, append_assoc, append-nil}
use Prim.Native.Nat.{ℕ, zero, suc, ◌+◌, ◌-◌, ◌≤◌, ◌<◌}
use native.Mathlib.Nat.{le_of_suc-le-suc, not-suc-le-zero, eq-or-lt_of_le, le_refl, le_trans}
use native.Mathlib.Omega.{arith}
use lib.ListN.{length, get_or, set, length-append, get_or-append}
use lib.Seq.{get_or_at, drop_at, take-append_seam}
use Rattle.lists.specs.Lists.{joined, sum_to, listed}
use Rattle.lists.specs.Parts.{part}
use Rattle.lists.specs.Members.{In, All}
use Rattle.lists.proofs.Members.{in_left, in_right, in_either, all_append}
use Rattle.lists.proofs.Parts.{part_none, part_join}
use Rattle.lists.proofs.Stores.{set_middle}

module _ {A : Type 0} where
  pub joined_ext : (f g : ℕ → List A) (n : ℕ) → ((k : ℕ) → k < n → f k ≡ g k) → joined f n ≡ joined g n
  joined_ext f g zero h = refl
  joined_ext f g (suc n) h =
      let a : joined f n ≡ joined g n = joined_ext f g n (λ k l. h k (omega arith)) in
      let b : f n ≡ g n = h n (omega arith) in
      cc

  pub length_joined : (f : ℕ → List A) (n : ℕ) → length (joined f n) ≡ sum_to (λ k. length (f k)) n
  length_joined f zero = refl
  length_joined f (suc n) = omega (arith, length-append (joined f n) (f n), length_joined f n)

  -- from the front
  pub joined_first : (f : ℕ → List A) (n : ℕ) → joined f (suc n) ≡ f 0 ++ joined (λ k. f (suc k)) n
  joined_first f zero = sym (append-nil (f 0))
  joined_first f (suc n) = ap (λ (l : List A). l ++ f (suc n)) (joined_first f n) ∙ append_assoc (f 0) (joined (λ k. f (suc k)) n) (f (suc n))

  -- x is in one of the blocks
  pub joined_in : (x : A) (f : ℕ → List A) (n : ℕ) → In x (joined f n) → (k : ℕ) × (k < n) × In x (f k)
  joined_in x f zero i = absurd i
  joined_in x f (suc n) i =
      ⊎_elim (λ q. let (k, l, w) = joined_in x f n q in (k, omega arith, w)) (λ q. (n, omega arith, q)) (in_either x (joined f n) (f n) i)

  pub in_joined : (x : A) (f : ℕ → List A) (n k : ℕ) → k < n → In x (f k) → In x (joined f n)
  in_joined x f zero k h i = absurd (not-suc-le-zero h)
  in_joined x f (suc n) k h i =
      ⊎_elim
      (λ e. in_right x (joined f n) (f n) (subst (λ (m : ℕ). In x (f m)) e i))
      (λ l. in_left x (joined f n) (f n) (in_joined x f n k l i))
      (eq-or-lt_of_le (le_of_suc-le-suc h))

  pub all_joined : (P : A → Type 0) (f : ℕ → List A) (n : ℕ) → ((k : ℕ) → k < n → All P (f k)) → All P (joined f n)
  all_joined P f zero h = tt
  all_joined P f (suc n) h = all_append P (joined f n) (f n) (all_joined P f n (λ k l. h k (omega arith))) (h n (omega arith))

  -- a store into the block c, at its place i
  pub joined_set : (f g : ℕ → List A) (n c i : ℕ) (v : A) (z : List A) → c < n → i < length (f c) → g c ≡ set (f c) i v → ((k : ℕ) → (k ≡ c → ⊥) → g k ≡ f k)
      → set (joined f n ++ z) (sum_to (λ k. length (f k)) c + i) v ≡ joined g n ++ z
  joined_set f g zero c i v z h _ _ _ = absurd (not-suc-le-zero h)
  joined_set f g (suc n) c i v z h r here other =
      ⊎_elim
      (λ e. last e)
      (λ l. rw (append_assoc (joined f n) (f n) z, append_assoc (joined g n) (g n) z, other n (λ e. omega arith)) (joined_set f g n c i v (f n ++ z) l r here other))
      (eq-or-lt_of_le (le_of_suc-le-suc h))
    where
      last : c ≡ n → set (joined f n ++ f n ++ z) (sum_to (λ k. length (f k)) c + i) v ≡ joined g n ++ g n ++ z
      last e =
          let same : joined g n ≡ joined f n = joined_ext g f n (λ k l. other k (λ q. omega arith)) in
          let at : g n ≡ set (f n) i v = subst (λ (m : ℕ). g m ≡ set (f m) i v) e here in
          let len : length (joined f n) ≡ sum_to (λ k. length (f k)) c = length_joined f n ∙ ap (sum_to (λ k. length (f k))) (sym e) in
          let r' : i < length (f n) = subst (λ (m : ℕ). i < length (f m)) e r in
          rw (append_assoc (joined f n) (f n) z, append_assoc (joined g n) (g n) z, same, at) (set_middle (joined f n) (f n) z _ i v len r')

  -- the block c
  pub joined_part : (f : ℕ → List A) (n c : ℕ) (z : List A) → c < n → part (sum_to (λ k. length (f k)) c) (sum_to (λ k. length (f k)) (suc c)) (joined f n ++ z) ≡ f c
  joined_part f zero c z h = absurd (not-suc-le-zero h)
  joined_part f (suc n) c z h =
      ⊎_elim
      (λ e. subst⁻¹ (λ (m : ℕ). part (sum_to (λ k. length (f k)) m) (sum_to (λ k. length (f k)) (suc m)) (joined f n ++ f n ++ z) ≡ f m) e last)
      (λ l. rw (append_assoc (joined f n) (f n) z) (joined_part f n c (f n ++ z) l))
      (eq-or-lt_of_le (le_of_suc-le-suc h))
    where
      last : part (sum_to (λ k. length (f k)) n) (sum_to (λ k. length (f k)) (suc n)) (joined f n ++ f n ++ z) ≡ f n
      last =
          let e : sum_to (λ k. length (f k)) n + length (f n) - sum_to (λ k. length (f k)) n ≡ length (f n) = omega arith in
          rw (append_assoc (joined f n) (f n) z, drop_at (joined f n) (f n ++ z) (sum_to (λ k. length (f k)) n) (length_joined f n), e, take-append_seam (f n) z)

  -- parts that stand side by side, from one of n starts that do not fall to the next, are one part
  pub joined_parts : (s : ℕ → ℕ) (l : List A) (n : ℕ) → ((k : ℕ) → k < n → s k ≤ s (suc k)) → joined (λ k. part (s k) (s (suc k)) l) n ≡ part (s 0) (s n) l
  joined_parts s l zero h = sym (part_none (s 0) (s 0) l (le_refl (s 0)))
  joined_parts s l (suc n) h =
      ap (λ (q : List A). q ++ part (s n) (s (suc n)) l) (joined_parts s l n (λ k m. h k (omega arith)))
      ∙ part_join (s 0) (s n) (s (suc n)) l (up n (λ k m. h k (omega arith))) (h n (omega arith))
    where
      up : (m : ℕ) → ((k : ℕ) → k < m → s k ≤ s (suc k)) → s 0 ≤ s m
      up zero g = le_refl (s 0)
      up (suc m) g = le_trans (up m (λ k j. g k (omega arith))) (g m (omega arith))

  -- ---- a list by its entries

  pub all_listed : (P : A → Type 0) (f : ℕ → A) (n : ℕ) → ((k : ℕ) → k < n → P (f k)) → All P (listed f n)
  all_listed P f zero h = tt
  all_listed P f (suc n) h = all_append P (listed f n) (f n ∷ []) (all_listed P f n (λ k l. h k (omega arith))) (h n (le_refl (suc n)), tt)

  pub listed_ext : (f g : ℕ → A) (n : ℕ) → ((k : ℕ) → k < n → f k ≡ g k) → listed f n ≡ listed g n
  listed_ext f g zero h = refl
  listed_ext f g (suc n) h = both (listed f n) (listed g n) (f n) (g n) (listed_ext f g n (λ k l. h k (omega arith))) (h n (le_refl (suc n)))
    where
      both : (xs ys : List A) (x y : A) → xs ≡ ys → x ≡ y → xs ++ (x ∷ []) ≡ ys ++ (y ∷ [])
      both xs ys x y p q = cc

  pub length_listed : (f : ℕ → A) (n : ℕ) → length (listed f n) ≡ n
  length_listed f zero = refl
  length_listed f (suc n) = omega (arith, length-append (listed f n) (f n ∷ []), length_listed f n)

  pub get_d_listed : (f : ℕ → A) (n k : ℕ) (d : A) → k < n → get_or (listed f n) k d ≡ f k
  get_d_listed f zero k d h = absurd (not-suc-le-zero h)
  get_d_listed f (suc n) k d h =
      ⊎_elim
      (λ e. subst (λ (m : ℕ). get_or (listed f n ++ (f n ∷ [])) m d ≡ f m) (sym e) (get_or_at (listed f n) (f n) [] d n (length_listed f n)))
      (λ l. get_or-append (listed f n) (f n ∷ []) d k (omega (arith, length_listed f n)) ∙ get_d_listed f n k d l)
      (eq-or-lt_of_le (le_of_suc-le-suc h))

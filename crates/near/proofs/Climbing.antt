-- Numbers that climb (`Climbs` of `sorts`): a sort of distinct numbers does, so that it is the one climbing list with their members; and so do parts that climb, laid one
-- after the other. Assumes nothing.
use mathlib.Core.Path.{◌≡◌, refl, sym, ◌∙◌, subst}
use mathlib.Core.Logic.{inl, inr, ⊎_elim}
use mathlib.Core.Bool.{Bool, true, false, cond, true≢false}
use mathlib.Core.List.{List, [], ◌∷◌, ◌++◌, map}
use Prim.Native.Nat.{ℕ, zero, suc, ◌≤◌, ◌<◌}
use native.Mathlib.Omega.{arith}
use lib.Dec.{ltb}
use borrow.Author.Tests.{ltb-true, ltb-false, lt-ltb}
use Rattle.num.proofs.Ranks.{numbers}
use Rattle.lists.specs.Lists.{cons_if, counting, filter, joined}
use Rattle.lists.specs.Members.{In, NoDup, All}
use Rattle.lists.proofs.Cases.{lt_or_le}
use Rattle.lists.proofs.Members.{in_either, all_in, in_all, all_map, all_append, from_map, all_mapped}
use Rattle.lists.proofs.Counting.{all_counting, filter_in}
use Rattle.sorts.specs.Sort.{insert, sort}
use Rattle.sorts.proofs.Stable.{all_insert, all_sort}
use Rattle.sorts.proofs.Climbing.{Climbs, further, one_list, in_sort}

-- ---- sorting
climb_by : (x y : ℕ) (ys : List ℕ) (t : Bool) → ltb y x ≡ t → Climbs ltb (y ∷ ys) → (x ≡ y → ⊥) → Climbs ltb (insert ltb x ys) → Climbs ltb (cond t (y ∷ insert ltb x ys) (x ∷ y ∷ ys))
climb_by x y ys true e a n h = (all_insert ltb (λ z. ltb y z ≡ true) x ys e a.0, h)
climb_by x y ys false e a n h =
    let l : x ≤ y = ltb-false y x e in
    let m : ltb x y ≡ true = lt-ltb x y (⊎_elim (λ p. p) (λ p. absurd (n (omega arith))) (lt_or_le x y)) in
    ((m, further ltb numbers.not_self numbers.via x y ys m a.0), a)

climb_insert : (x : ℕ) (l : List ℕ) → Climbs ltb l → (In x l → ⊥) → Climbs ltb (insert ltb x l)
climb_insert x [] a n = (tt, tt)
climb_insert x (y ∷ ys) a n = climb_by x y ys (ltb y x) refl a (λ e. n (inl e)) (climb_insert x ys a.1 (λ i. n (inr i)))

pub sort_in : (z : ℕ) (xs : List ℕ) → In z (sort ltb xs) → In z xs
sort_in z xs i = all_in (λ y. In y xs) (sort ltb xs) z (all_sort ltb (λ y. In y xs) xs (in_all _ xs (λ y k. k))) i

pub climb_sort : (xs : List ℕ) → NoDup xs → Climbs ltb (sort ltb xs)
climb_sort [] d = tt
climb_sort (x ∷ xs) d = climb_insert x (sort ltb xs) (climb_sort xs d.1) (λ i. d.0 (sort_in x xs i))

-- a climbing list with the members of distinct numbers is their sort
pub sorted_is : (xs ys : List ℕ) → NoDup xs → Climbs ltb ys → ((z : ℕ) → In z xs → In z ys) → ((z : ℕ) → In z ys → In z xs) → sort ltb xs ≡ ys
sorted_is xs ys d a f g =
    one_list ltb numbers.not_self numbers.via (sort ltb xs) ys (climb_sort xs d) a (λ z i. f z (sort_in z xs i)) (λ z i. in_sort ltb numbers z xs (g z i))

-- a list that climbs has no number twice
pub climb_once : (l : List ℕ) → Climbs ltb l → NoDup l
climb_once [] a = tt
climb_once (x ∷ l) a = ((λ i. true≢false (sym (all_in (λ y. ltb x y ≡ true) l x a.0 i) ∙ numbers.not_self x)), climb_once l a.1)

-- ---- parts
climb_append : (xs ys : List ℕ) → Climbs ltb xs → Climbs ltb ys → ((x y : ℕ) → In x xs → In y ys → x < y) → Climbs ltb (xs ++ ys)
climb_append [] ys a b f = b
climb_append (x ∷ xs) ys a b f =
    (all_append (λ z. ltb x z ≡ true) xs ys a.0 (in_all _ ys (λ y i. lt-ltb x y (f x y (inl refl) i))), climb_append xs ys a.1 b (λ u v i k. f u v (inr i) k))

-- parts that climb, each between one bound and the next
pub record Between (lo hi : ℕ) (l : List ℕ) : Type 0 where
  pub climbs : Climbs ltb l
  pub from : (x : ℕ) → In x l → lo ≤ x
  pub upto : (x : ℕ) → In x l → x < hi

pub climb_joined : (f : ℕ → List ℕ) (lo : ℕ → ℕ) (n : ℕ) → ((k : ℕ) → k < n → Between (lo k) (lo (suc k)) (f k)) → ((k : ℕ) → k < n → lo k ≤ lo (suc k)) → Between (lo 0) (lo n) (joined f n)
climb_joined f lo zero h m = record { climbs = tt; from = λ x i. absurd i; upto = λ x i. absurd i }
climb_joined f lo (suc n) h m =
    let a = climb_joined f lo n (λ k l. h k (omega arith)) (λ k l. m k (omega arith)) in
    let b = h n (omega arith) in
    let up : lo n ≤ lo (suc n) = m n (omega arith) in
    let low : lo 0 ≤ lo n = lowest n (λ k l. m k (omega arith)) in
    record {
      climbs = climb_append (joined f n) (f n) a.climbs b.climbs (λ x y i k. omega (arith, a.upto x i, b.from y k));
      from = λ x i. ⊎_elim (λ k. a.from x k) (λ k. omega (arith, b.from x k)) (in_either x (joined f n) (f n) i);
      upto = λ x i. ⊎_elim (λ k. omega (arith, a.upto x k)) (λ k. b.upto x k) (in_either x (joined f n) (f n) i);
    }
  where
    lowest : (j : ℕ) → ((k : ℕ) → k < j → lo k ≤ lo (suc k)) → lo 0 ≤ lo j
    lowest zero g = omega arith
    lowest (suc j) g = omega (arith, lowest j (λ k l. g k (omega arith)), g j (omega arith))

-- ---- ids of a test
climb_counting : (a n : ℕ) → Climbs ltb (counting a n)
climb_counting a zero = tt
climb_counting a (suc n) = (all_counting _ (suc a) n (λ k g l. lt-ltb a k g), climb_counting (suc a) n)

climb_cons_if : (t : Bool) (x : ℕ) (l : List ℕ) → All (λ y. ltb x y ≡ true) l → Climbs ltb l → Climbs ltb (cons_if t x l)
climb_cons_if true x l h a = (h, a)
climb_cons_if false x l h a = a

climb_filter : (p : ℕ → Bool) (l : List ℕ) → Climbs ltb l → Climbs ltb (filter p l)
climb_filter p [] a = tt
climb_filter p (x ∷ l) a =
    climb_cons_if (p x) x (filter p l) (in_all _ (filter p l) (λ y i. all_in (λ z. ltb x z ≡ true) l y a.0 (filter_in p y l i).0)) (climb_filter p l a.1)

pub climb_ids : (p : ℕ → Bool) (n : ℕ) → Climbs ltb (filter p (counting 0 n))
climb_ids p n = climb_filter p (counting 0 n) (climb_counting 0 n)

-- ---- mapped
pub climb_map : (f : ℕ → ℕ) → ((x y : ℕ) → x < y → f x < f y) → (l : List ℕ) → Climbs ltb l → Climbs ltb (map f l)
climb_map f m [] a = tt
climb_map f m (x ∷ l) a =
    (all_mapped f (λ y. ltb (f x) y ≡ true) l (all_map (λ y. ltb x y ≡ true) (λ y. ltb (f x) (f y) ≡ true) (λ y h. lt-ltb (f x) (f y) (m x y (ltb-true x y h))) l a.0), climb_map f m l a.1)

pub nodup_map : (f : ℕ → ℕ) (l : List ℕ) → NoDup l → ((x y : ℕ) → In x l → In y l → f x ≡ f y → x ≡ y) → NoDup (map f l)
nodup_map f [] d h = tt
nodup_map f (x ∷ l) d h = (
  (λ i. let (y, m, e) = from_map f (f x) l i in d.0 (subst (λ (z : ℕ). In z l) (h y x (inr m) (inl refl) e) m)),
  nodup_map f l d.1 (λ a b i k e. h a b (inr i) (inr k) e),
)

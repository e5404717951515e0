-- Laws of stretches and of the lists of the buckets. Assumes nothing.
use Rattle.std.proofs.Common.{◌≡◌, ℕ, zero, suc, ◌+◌, ◌-◌, ◌*◌, ◌<◌, ◌≤◌, Bool, true, false, List, [], ◌∷◌, map, length, get_or, drop, sym, refl, ap, ◌∙◌, subst, ⊎_elim, arith}
use lib.Ieee.{Float, le}
use borrow.Author.Tests.{lt-leb}
use Rattle.lists.specs.Lists.{bit, cons_if, sum_to, sum_over}
use Rattle.lists.proofs.Cases.{lt_or_le, by_test}
use Rattle.lists.proofs.Sums.{sum_to_ext, sum_to_add, sum_to_zero}
use Rattle.lists.proofs.Counting.{length_cons_if}
use Rattle.lists.proofs.Parts.{drop_here}
use Rattle.num.specs.Ops.{◌⊕◌, ◌⊖◌, zero_f}
use Rattle.num.specs.Num.{min_of, max_of}
use Rattle.geom.specs.Constants.{tau, nano}
use Rattle.tables.specs.Scatter.{within}
use Rattle.tables.proofs.Cells.{within_out, sum_within}
use Rattle.room.specs.declared.Rooms.{Rooms}
use Rattle.room.specs.Records.{edge_at}
use Rattle.index.specs.declared.AngularIndex.{AngularIndex}
use Rattle.index.specs.declared.Stretch.{Stretch}
use Rattle.index.specs.declared.Spans.{Spans}
use Rattle.index.specs.Spans.{bucket_of, clip_of, spans_by, covers, width_of, edge_bits, edge_refs}
use Rattle.index.specs.Angular.{in_bucket}
use Rattle.index.specs.Filling.{spans_at}

-- ---- stretches lie in the buckets

clip_inside : (x : AngularIndex) (total lo hi : Float) → 0 < x.buckets → (clip_of x total lo hi).to ≤ x.buckets
unfolding clip_of bucket_of
clip_inside x total lo hi h =
    ⊎_elim (λ e. rw e (omega arith)) (λ e. rw e (omega arith)) (by_test (le (max_of (lo ⊖ nano) zero_f) (min_of (hi ⊕ nano) total)))

-- both stretches of an edge end within m
pub record Inside (m : ℕ) (s : Spans) : Type 0 where
  pub first_in : s.first.to ≤ m
  pub second_in : s.second.to ≤ m

pub spans_inside : (x : AngularIndex) (total start len : Float) → 0 < x.buckets → Inside x.buckets (spans_by x total start len)
unfolding spans_by
spans_inside x total start len h =
    ⊎_elim
    (λ e. rw e (record { first_in = clip_inside x total start (start ⊕ len) h; second_in = omega arith }))
    (λ e. rw e (record { first_in = clip_inside x total start tau h; second_in = clip_inside x total zero_f (start ⊕ len ⊖ tau) h }))
    (by_test (le (start ⊕ len) tau))

pub at_inside : (k : Rooms) (floats : List Float) (x : AngularIndex) (total : Float) (i : ℕ) → 0 < x.buckets → Inside x.buckets (spans_at k floats x total i)
unfolding spans_at
at_inside k floats x total i h = spans_inside x total (edge_at k floats [] i).span_start (edge_at k floats [] i).span_len h

pub bits_past : (m : ℕ) (s : Spans) (b : ℕ) → Inside m s → m ≤ b → edge_bits s b ≡ 0
bits_past m s b i h =
    omega (arith, ap bit (within_out s.first.from s.first.to b (omega (arith, i.first_in))), ap bit (within_out s.second.from s.second.to b (omega (arith, i.second_in))))

-- what is covered is in the buckets
pub bits_inside : (m : ℕ) (s : Spans) (b : ℕ) → Inside m s → 0 < edge_bits s b → b < m
bits_inside m s b i h = ⊎_elim (λ l. l) (λ l. absurd (let z : edge_bits s b ≡ 0 = bits_past m s b i l in omega arith)) (lt_or_le b m)

-- ---- how many buckets a stretch has

pub turned : (from to b : ℕ) → to ≤ from → within from to b ≡ false
turned from to b h = ⊎_elim (λ l. rw (lt-leb from b l)) (λ l. within_out from to b (omega arith)) (lt_or_le b from)

sum_stretch : (s : Stretch) (m : ℕ) → s.to ≤ m → sum_to (λ b. bit (covers s b)) m ≡ width_of s
sum_stretch s m h =
    ⊎_elim
    (λ l.
    let e : s.from + (s.to - s.from) ≡ s.to = omega arith in
    subst (λ (t : ℕ). sum_to (λ b. bit (within s.from t b)) m ≡ s.to - s.from) e (sum_within s.from (s.to - s.from) m (omega arith)))
    (λ l. sum_to_ext (λ b. bit (covers s b)) (λ _. 0) m (λ b g. ap bit (turned s.from s.to b l)) ∙ sum_to_zero m ∙ omega arith)
    (lt_or_le s.from s.to)

-- a stretch has no more buckets than there are
width_few : (m : ℕ) (s : Spans) → Inside m s → edge_refs s ≤ m + m
width_few m s i = omega (arith, i.first_in, i.second_in)

-- ---- the edges as they stand

module _ (spans : ℕ → Spans) (m : ℕ) (inside : (i : ℕ) → Inside m (spans i)) where
  -- as many as the stretches have buckets, all told
  pub many_refs : (n : ℕ) → sum_to (λ b. sum_to (λ i. edge_bits (spans i) b) n) m ≡ sum_to (λ i. edge_refs (spans i)) n
  many_refs zero = sum_to_zero m
  many_refs (suc n) =
      sum_to_add (λ b. sum_to (λ i. edge_bits (spans i) b) n) (edge_bits (spans n)) m
      ∙ omega (
        arith,
        sum_to_add (λ b. bit (covers (spans n).first b)) (λ b. bit (covers (spans n).second b)) m,
        sum_stretch (spans n).first m (inside n).first_in,
        sum_stretch (spans n).second m (inside n).second_in,
        many_refs n,
      )

  pub refs_few : m ≤ 65536 → (n : ℕ) → sum_to (λ i. edge_refs (spans i)) n ≤ 131072 * n
  refs_few h zero = omega arith
  refs_few h (suc n) = omega (arith, refs_few h n, width_few m (spans n) (inside n))

-- ---- the lists of the buckets

module _ {A : Type 0} (spans : A → Spans) where
  pub length_more : (e : A) (es : List A) (b : ℕ) → length (in_bucket spans (e ∷ es) b) ≡ edge_bits (spans e) b + length (in_bucket spans es b)
  length_more e es b =
      omega (
        arith,
        length_cons_if (covers (spans e).first b) e (cons_if (covers (spans e).second b) e (in_bucket spans es b)),
        length_cons_if (covers (spans e).second b) e (in_bucket spans es b),
      )

  -- past the buckets there are none
  pub none_past : (m : ℕ) → ((e : A) → Inside m (spans e)) → (es : List A) (b : ℕ) → m ≤ b → in_bucket spans es b ≡ []
  none_past m i [] b h = refl
  none_past m i (e ∷ es) b h =
      let f = within_out (spans e).first.from (spans e).first.to b (omega (arith, (i e).first_in)) in
      let g = within_out (spans e).second.from (spans e).second.to b (omega (arith, (i e).second_in)) in
      rw (f, g) (none_past m i es b h)

  pub rest_few : (es : List A) (r b : ℕ) → length (in_bucket spans (drop r es) b) ≤ length (in_bucket spans es b)
  rest_few es zero b = omega arith
  rest_few [] (suc r) b = omega arith
  rest_few (e ∷ es) (suc r) b = omega (arith, rest_few es r b, length_more e es b)

  -- a bucket has as many as cover it
  pub length_bucket : (es : List A) (b : ℕ) → length (in_bucket spans es b) ≡ sum_over (λ e. edge_bits (spans e) b) es
  length_bucket [] b = refl
  length_bucket (e ∷ es) b = length_more e es b ∙ ap (λ (q : ℕ). edge_bits (spans e) b + q) (length_bucket es b)

module _ {A B : Type 0} (f : A → B) where
  map_cons_if : (t : Bool) (x : A) (l : List A) → map f (cons_if t x l) ≡ cons_if t (f x) (map f l)
  map_cons_if true x l = refl
  map_cons_if false x l = refl

  -- the references of a bucket, read
  pub map_bucket : (spans : B → Spans) (l : List A) (b : ℕ) → map f (in_bucket (λ i. spans (f i)) l b) ≡ in_bucket spans (map f l) b
  map_bucket spans [] b = refl
  map_bucket spans (i ∷ l) b =
      map_cons_if (covers (spans (f i)).first b) i (cons_if (covers (spans (f i)).second b) i (in_bucket (λ j. spans (f j)) l b))
      ∙ ap (cons_if (covers (spans (f i)).first b) (f i))
      (map_cons_if (covers (spans (f i)).second b) i (in_bucket (λ j. spans (f j)) l b) ∙ ap (cons_if (covers (spans (f i)).second b) (f i)) (map_bucket spans l b))

-- the order from one place before on
pub drop_down : (l : List ℕ) (r : ℕ) → 0 < r → r ≤ length l → drop (r - 1) l ≡ get_or l (r - 1) 0 ∷ drop r l
drop_down l r h g =
    let e : r - 1 + 1 ≡ r = omega arith in
    drop_here l (r - 1) 0 (omega arith) ∙ ap (λ (q : ℕ). get_or l (r - 1) 0 ∷ drop q l) e

-- a stretch that ends before it begins counts as one that ends where it begins
pub within_long : (a c b : ℕ) → within a (a + (c - a)) b ≡ within a c b
within_long a c b =
    ⊎_elim
    (λ l. let e : a + (c - a) ≡ c = omega arith in ap (λ (t : ℕ). within a t b) e)
    (λ l. turned a (a + (c - a)) b (omega arith) ∙ sym (turned a c b l))
    (lt_or_le a c)

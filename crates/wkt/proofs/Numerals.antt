-- Laws of digits and numbers at a cursor.
-- Assumes nothing.
use Rattle.std.proofs.Common.{◌≡◌, ℕ, zero, suc, ◌+◌, ◌-◌, ◌*◌, ◌^◌, ◌<◌, ◌≤◌, Bool, true, false, leb, Some, None, List, [], ◌∷◌, length, drop, sym, refl, ap, ◌∙◌, subst, true≢false, le_of_eq, add-zero, add-suc, mul-le-mul_right, suc-mul, pow-suc, add-one, arith, length-drop, drop_of_length-le, drop-drop, pow-add, le-leb, leb-false, leb-true}
use borrow.Author.Tests.{lt-leb}
use Rattle.wkt.specs.Parse.{got, wrong, starts, spells, run, past, value_of}
use Rattle.wkt.specs.Cursor.{head_digit}
use Rattle.wkt.specs.Number.{digits, digits_of, decimal, unsigned, number}

-- ---- a byte at a cursor, by what it counts as
module _ (g : ℕ → ℕ) (s : List ℕ) (at b : ℕ) where
  pub spells_end : length s ≤ at → false ≡ spells g b (drop at s)
  spells_end h = ap (spells g b) (sym (drop_of_length-le s h))

  -- where a byte stands, the cursor is inside the text
  inside_by : (t : Bool) → leb (length s) at ≡ t → spells g b (drop at s) ≡ true → at < length s
  inside_by true e h = absurd (true≢false (sym h ∙ sym (spells_end (leb-true _ _ e))))
  inside_by false e h = leb-false _ _ e

  pub inside : spells g b (drop at s) ≡ true → at < length s
  inside = inside_by (leb (length s) at) refl

-- ---- the run of digits
pub record More (t : List ℕ) (d : ℕ) : Type 0 where
  pub digits_on : run t ≡ (48 + d) ∷ run (drop 1 t)
  pub past_on : past t ≡ past (drop 1 t)
  pub some : 0 < length t
  pub small : d < 10

more_by : (b d : ℕ) (t : List ℕ) (p q : Bool) → leb 48 b ≡ p → leb b 57 ≡ q → Some d ≡ head_digit (b ∷ t) → More (b ∷ t) d
more_by b d t true true e f h =
    let z : Some d ≡ Some (b - 48) = (rw (e, f) at h) in
    let k : d ≡ b - 48 = cc in
    let low : 48 ≤ b = leb-true _ _ e in
    let high : b ≤ 57 = leb-true _ _ f in
    let g : 48 + d ≡ b = omega arith in
    record { digits_on = rw (e, f, g); past_on = rw (e, f); some = omega arith; small = omega arith }
more_by b d t true false e f h = let z : Some d ≡ None = (rw (e, f) at h) in cc
more_by b d t false q e f h = let z : Some d ≡ None = (rw e at h) in cc

pub more : (t : List ℕ) (d : ℕ) → Some d ≡ head_digit t → More t d
more [] d h = cc
more (b ∷ t) d h = more_by b d t (leb 48 b) (leb b 57) refl refl h

pub record NoDigit (t : List ℕ) : Type 0 where
  pub digits_none : run t ≡ []
  pub past_none : past t ≡ t

none_by : (b : ℕ) (t : List ℕ) (p q : Bool) → leb 48 b ≡ p → leb b 57 ≡ q → None ≡ head_digit (b ∷ t) → NoDigit (b ∷ t)
none_by b t true true e f h = let z : None ≡ Some (b - 48) = (rw (e, f) at h) in cc
none_by b t true false e f h = record { digits_none = rw (e, f); past_none = rw (e, f) }
none_by b t false q e f h = record { digits_none = rw e; past_none = rw e }

pub none : (t : List ℕ) → None ≡ head_digit t → NoDigit t
none [] h = record { digits_none = refl; past_none = refl }
none (b ∷ t) h = none_by b t (leb 48 b) (leb b 57) refl refl h

-- ---- what has been read of a run, from `at` to i: the number v
pub record Reading (s : List ℕ) (at i v : ℕ) : Type 0 where
  pub value : value_of 0 (run (drop at s)) ≡ value_of v (run (drop i s))
  pub rest : past (drop at s) ≡ past (drop i s)
  pub count : length (run (drop at s)) ≡ (i - at) + length (run (drop i s))
  pub from : at ≤ i
  pub small : v < 10 ^ (i - at)
  pub inside : at < i → i ≤ length s

pub reading_start : (s : List ℕ) (at : ℕ) → Reading s at at 0
reading_start s at = record { value = refl; rest = refl; count = omega arith; from = omega arith; small = let e : at - at ≡ 0 = omega arith in rw e (omega arith); inside = λ h. absurd (omega arith) }

pub in_text : (s : List ℕ) (i d : ℕ) → Some d ≡ head_digit (drop i s) → i < length s
in_text s i d h = omega (arith, (more (drop i s) d h).some, length-drop i s)

pub reading_more : (s : List ℕ) (at i v d : ℕ) → Reading s at i v → Some d ≡ head_digit (drop i s) → Reading s at (i + 1) (v * 10 + d)
reading_more s at i v d r e =
    let m = more (drop i s) d e in
    let a : run (drop i s) ≡ (48 + d) ∷ run (drop (i + 1) s) = m.digits_on ∙ ap (λ (t : List ℕ). (48 + d) ∷ run t) (drop-drop 1 i s) in
    let k : (48 + d) - 48 ≡ d = omega arith in
    let f = r.from in
    let q : i + 1 - at ≡ suc (i - at) = omega arith in
    let sm = r.small in
    record {
      value = r.value ∙ ap (value_of v) a ∙ ap (λ (x : ℕ). value_of (v * 10 + x) (run (drop (i + 1) s))) k;
      rest = r.rest ∙ m.past_on ∙ ap past (drop-drop 1 i s);
      count = let c = r.count in let l = ap length a in omega arith;
      from = omega arith;
      small = rw q (omega (arith, m.small, pow-suc 10 (i - at)));
      inside = λ _. omega (arith, m.some, length-drop i s);
    }

-- more digits are there than the limit
pub reading_over : (s : List ℕ) (at i v d limit : ℕ) → Reading s at i v → Some d ≡ head_digit (drop i s) → i - at ≡ limit → wrong ≡ digits_of limit (drop at s)
unfolding digits_of
reading_over s at i v d limit r h e =
    let m = more (drop i s) d h in
    let l = ap length m.digits_on in
    let c = r.count in
    let g : limit < length (run (drop at s)) = omega arith in
    let o : 1 ≤ length (run (drop at s)) = omega arith in
    rw (le-leb 1 _ o, lt-leb (length (run (drop at s))) limit g)

pub reading_none : (s : List ℕ) (at i v limit : ℕ) → Reading s at i v → None ≡ head_digit (drop i s) → i ≡ at → wrong ≡ digits_of limit (drop at s)
unfolding digits_of
reading_none s at i v limit r h e =
    let l = ap length (none (drop i s) h).digits_none in
    let c = r.count in
    let o : length (run (drop at s)) < 1 = omega arith in
    rw (lt-leb 1 (length (run (drop at s))) o)

pub reading_done : (s : List ℕ) (at i v limit : ℕ) → Reading s at i v → None ≡ head_digit (drop i s) → (i ≡ at → ⊥) → i - at ≤ limit → got (digits v (i - at)) (drop i s) ≡ digits_of limit (drop at s)
unfolding digits_of
reading_done s at i v limit r h n e =
    let m = none (drop i s) h in
    let l = ap length m.digits_none in
    let c = r.count in
    let f = r.from in
    let p = i - at in
    let k : length (run (drop at s)) ≡ i - at = omega arith in
    let o : 1 ≤ i - at = omega arith in
    let w : value_of 0 (run (drop at s)) ≡ v = r.value ∙ ap (value_of v) m.digits_none in
    let z : past (drop at s) ≡ drop i s = r.rest ∙ m.past_none in
    rw (k, le-leb 1 (i - at) o, le-leb (i - at) limit e, w, z)

-- ---- powers of ten
pub ten_mono : (i d : ℕ) → 10 ^ i ≤ 10 ^ (i + d)
ten_mono i zero = le_of_eq (ap (λ (x : ℕ). 10 ^ x) (sym (add-zero i)))
ten_mono i (suc d) = omega (arith, ten_mono i d, ap (λ (x : ℕ). 10 ^ x) (add-suc i d), pow-suc 10 (i + d))

pub ten_le : (i j : ℕ) → i ≤ j → 10 ^ i ≤ 10 ^ j
ten_le i j h = let e : i + (j - i) ≡ j = omega arith in subst (λ (x : ℕ). 10 ^ i ≤ 10 ^ x) e (ten_mono i (j - i))

pub ten_next : (i : ℕ) → 10 ^ (i + 1) ≡ 10 ^ i * 10
ten_next i = ap (λ (x : ℕ). 10 ^ x) (add-one i) ∙ pow-suc 10 i

-- ---- a number by its parts
pub dec_fits : (n v a k w f : ℕ) → n < 10 ^ a → v < 10 ^ k → a ≤ w → k ≤ f → w + f ≤ 15 → n * 10 ^ k + v < 10 ^ 15
dec_fits n v a k w f hn hv ha hk h =
    let p : suc n * 10 ^ k ≤ 10 ^ a * 10 ^ k = mul-le-mul_right (10 ^ k) hn in
    let q : 10 ^ a * 10 ^ k ≤ 10 ^ 15 = subst (λ (x : ℕ). x ≤ 10 ^ 15) (pow-add 10 a k) (ten_le (a + k) 15 (omega arith)) in
    let r : suc n * 10 ^ k ≡ n * 10 ^ k + 10 ^ k = suc-mul n (10 ^ k) in
    omega arith

module _ (w f : ℕ) (s : Bool) (t : List ℕ) where
  pub unsigned_none : digits_of w t ≡ wrong → wrong ≡ unsigned w f s t
  unfolding unsigned
  unsigned_none e = rw e

  module _ (n k : ℕ) (rest : List ℕ) (e : digits_of w t ≡ got (digits n k) rest) where
    pub unsigned_whole : starts 46 rest ≡ false → got (decimal s n 0 0) rest ≡ unsigned w f s t
    unfolding unsigned
    unsigned_whole p = rw (e, p)

    pub unsigned_cut : starts 46 rest ≡ true → digits_of f (drop 1 rest) ≡ wrong → wrong ≡ unsigned w f s t
    unfolding unsigned
    unsigned_cut p q = rw (e, p, q)

    pub unsigned_part : (v j : ℕ) (last : List ℕ) → starts 46 rest ≡ true → digits_of f (drop 1 rest) ≡ got (digits v j) last → got (decimal s n v j) last ≡ unsigned w f s t
    unfolding unsigned
    unsigned_part v j last p q = rw (e, p, q)

pub number_minus : (w f : ℕ) (s : List ℕ) (at : ℕ) → starts 45 (drop at s) ≡ true → unsigned w f true (drop (at + 1) s) ≡ number w f (drop at s)
unfolding number
number_minus w f s at p = rw (p, drop-drop 1 at s)

pub number_plain : (w f : ℕ) (s : List ℕ) (at : ℕ) → starts 45 (drop at s) ≡ false → unsigned w f false (drop at s) ≡ number w f (drop at s)
unfolding number
number_plain w f s at p = rw p

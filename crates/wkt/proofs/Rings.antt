-- Laws of pairs and rings at a cursor: what has been read of a ring, step by step.
-- Assumes nothing.
use Rattle.std.proofs.Common.{◌≡◌, ℕ, zero, suc, ◌+◌, ◌-◌, ◌*◌, ◌<◌, ◌≤◌, Bool, true, false, ◌&&◌, leb, List, [], ◌∷◌, ◌++◌, length, drop, sym, refl, ap, ◌∙◌, subst, arith, length-append, length-drop}
use mathlib.Core.Path.{fun_ext}
use lib.Seq.{sets, take-append_seam}
use lib.Ieee.{Float}
use Rattle.wkt.specs.Limits.{least_ring}
use Rattle.wkt.specs.Words.{comma}
use Rattle.wkt.specs.Parse.{Parse, got, wrong, and_then, join, spells, starts, only_if, word}
use Rattle.wkt.specs.Number.{number}
use Rattle.wkt.specs.Rules.{Rules}
use Rattle.wkt.specs.Grammar.{Point, point, pair, after, points, same, last_of, closed, opened, closing, ring}
use Rattle.wkt.specs.Answer.{coords}
use Rattle.wkt.specs.Cursor.{counted, StoredBy}
use Rattle.wkt.proofs.Numerals.{inside}
use Rattle.wkt.proofs.Prefix.{prefixed, prefixed_join, prefixed_nil, word_then}
use Rattle.wkt.proofs.Stored.{point_more}

-- ---- a pair
module _ (how : Rules) (t : List ℕ) where
  pub pair_none : number how.whole how.part t ≡ wrong → wrong ≡ pair how t
  unfolding pair
  pair_none e = rw e

  module _ (x : Float) (a : List ℕ) (e : number how.whole how.part t ≡ got x a) where
    pub pair_gap : spells how.letter 32 a ≡ false → wrong ≡ pair how t
    unfolding pair
    pair_gap p = rw (e, p)

    pub pair_cut : spells how.letter 32 a ≡ true → number how.whole how.part (drop 1 a) ≡ wrong → wrong ≡ pair how t
    unfolding pair
    pair_cut p q = rw (e, p, q)

    pub pair_done : (y : Float) (b : List ℕ) → spells how.letter 32 a ≡ true → number how.whole how.part (drop 1 a) ≡ got y b → got (point x y) b ≡ pair how t
    unfolding pair
    pair_done y b p q = rw (e, p, q)

-- ---- a ring
abbrev pub head_or : Point → List Point → Point
head_or p [] = p
head_or p (q ∷ qs) = q

head_more : (p q : Point) (qs : List Point) → head_or q (qs ++ (p ∷ [])) ≡ head_or p qs
head_more p q [] = refl
head_more p q (x ∷ qs) = refl

last_snoc : (d : Point) (l : List Point) (p : Point) → last_of d (l ++ (p ∷ [])) ≡ p
last_snoc d [] p = refl
last_snoc d (x ∷ l) p = last_snoc x l p

closed_is : (qs : List Point) (p : Point) → closed (qs ++ (p ∷ [])) ≡ same p (head_or p qs)
closed_is [] p = refl
closed_is (q ∷ qs) p = ap (λ (z : Point). same z q) (last_snoc q qs p)

-- what is read after a point p, with n more tried
abbrev rest : Rules → ℕ → Point → List ℕ → Parse (List Point)
rest how n p a = after how (starts 44 a) p a (points how n)

points_suc : (how : Rules) (m n : ℕ) (t : List ℕ) → m ≡ suc n → points how m t ≡ and_then (pair how t) (rest how n)
unfolding points
points_suc how m n t e = rw e

-- what has been read of a ring from `at` on: the points `before` and (x, y), up to i
pub record Taken (how : Rules) (s : List ℕ) (at : ℕ) (pts₀ : List Float) (k : ℕ) (x0 y0 : Float) (pts : List Float) (x y : Float) (i n : ℕ) : Type 0 where
  pub before : List Point
  pub count : length before ≡ n
  pub parse : points how (length (drop at s)) (drop at s) ≡ prefixed before (rest how (length s - at - 1 - n) (point x y) (drop i s))
  pub kept_in : pts ≡ sets pts₀ (2 * k) (coords before)
  pub head : head_or (point x y) before ≡ point x0 y0
  pub within : i ≤ length s
  pub moved : at + n < i

pub taken_start : (how : Rules) (s : List ℕ) (at : ℕ) (pts : List Float) (k : ℕ) (x y : Float) (i : ℕ) → pair how (drop at s) ≡ got (point x y) (drop i s) → at < i → i ≤ length s → Taken how s at pts k x y pts x y i 0
taken_start how s at pts k x y i e h g =
    let m : length (drop at s) ≡ suc (length s - at - 1 - 0) = omega (arith, length-drop at s) in
    record {
      before = [];
      count = refl;
      parse =
          points_suc how (length (drop at s)) (length s - at - 1 - 0) (drop at s) m
          ∙ ap (λ (r : Parse Point). and_then r (rest how (length s - at - 1 - 0))) e
          ∙ sym (prefixed_nil _);
      kept_in = refl;
      head = refl;
      within = g;
      moved = omega arith;
    }

module _ (how : Rules) (s : List ℕ) (at : ℕ) (pts₀ : List Float) (k : ℕ) (x0 y0 : Float) (pts : List Float) (x y : Float) (i n : ℕ) (r : Taken how s at pts₀ k x0 y0 pts x y i n) where
  step : (z : Parse Point) → starts 44 (drop i s) ≡ true → word how.letter comma (drop i s) (pair how) ≡ z
      → points how (length (drop at s)) (drop at s) ≡ prefixed (r.before ++ (point x y ∷ [])) (and_then z (rest how (length s - at - 1 - (n + 1))))
  step z c e =
      let l = inside (λ x. x) s i 44 c in
      let d = r.moved in
      let m : length s - at - 1 - n ≡ suc (length s - at - 1 - (n + 1)) = omega arith in
      let g = rest how (length s - at - 1 - (n + 1)) in
      let q : ◌≡◌ {A = List ℕ → Parse (List Point)} (points how (length s - at - 1 - n)) (λ (b : List ℕ). and_then (pair how b) g) = fun_ext (λ b. points_suc how _ _ b m) in
      r.parse
      ∙ ap (λ (z : Bool). prefixed r.before (after how z (point x y) (drop i s) (points how (length s - at - 1 - n)))) c
      ∙ ap (λ (z : List ℕ → Parse (List Point)). prefixed r.before (join (point x y) (word how.letter comma (drop i s) z))) q
      ∙ prefixed_join r.before (point x y) (word how.letter comma (drop i s) (λ (b : List ℕ). and_then (pair how b) g))
      ∙ ap (prefixed (r.before ++ (point x y ∷ []))) (word_then how.letter comma (drop i s) (pair how) g ∙ ap (λ (z : Parse Point). and_then z g) e)

  pub taken_more : (x1 y1 : Float) (j : ℕ) (pts' : List Float) → starts 44 (drop i s) ≡ true → word how.letter comma (drop i s) (pair how) ≡ got (point x1 y1) (drop j s) → i < j → j ≤ length s
      → pts' ≡ sets pts (2 * (k + n)) (x ∷ y ∷ [])
      → Taken how s at pts₀ k x0 y0 pts' x1 y1 j (n + 1)
  taken_more x1 y1 j pts' c e h g p =
      record {
        before = r.before ++ (point x y ∷ []);
        count = omega (arith, length-append r.before (point x y ∷ []), r.count);
        parse = step (got (point x1 y1) (drop j s)) c e;
        kept_in = p ∙ ap (λ (l : List Float). sets l (2 * (k + n)) (x ∷ y ∷ [])) r.kept_in ∙ point_more pts₀ k r.before n x y r.count;
        head = head_more (point x y) (point x1 y1) r.before ∙ r.head;
        within = g;
        moved = let d = r.moved in omega arith;
      }

  pub taken_cut : starts 44 (drop i s) ≡ true → word how.letter comma (drop i s) (pair how) ≡ wrong → ring how (drop at s) ≡ wrong
  unfolding ring
  taken_cut c e = ap (λ (z : Parse (List Point)). and_then z closing) (step wrong c e)

  len : length (r.before ++ (point x y ∷ [])) ≡ n + 1
  len = length-append r.before (point x y ∷ []) ∙ omega (arith, r.count)

  opens : opened (r.before ++ (point x y ∷ [])) ≡ r.before
  opens =
      let e : length (r.before ++ (point x y ∷ [])) - 1 ≡ length r.before = omega (arith, len, r.count) in
      rw e (take-append_seam r.before (point x y ∷ []))

  test : (leb least_ring (length (r.before ++ (point x y ∷ []))) && closed (r.before ++ (point x y ∷ []))) ≡ (leb least_ring (n + 1) && same (point x y) (point x0 y0))
  test = rw (len, closed_is r.before (point x y), r.head)

  final : (b : Bool) → starts 44 (drop i s) ≡ false → (leb least_ring (n + 1) && same (point x y) (point x0 y0)) ≡ b → ring how (drop at s) ≡ only_if b (λ c. got r.before c) (drop i s)
  unfolding ring
  final b c e =
      ap (λ (z : Parse (List Point)). and_then z closing) (r.parse ∙ ap (λ (z : Bool). prefixed r.before (after how z (point x y) (drop i s) (points how (length s - at - 1 - n)))) c)
      ∙ ap (λ (z : Bool). only_if z (λ b. got (opened (r.before ++ (point x y ∷ []))) b) (drop i s)) (test ∙ e)
      ∙ ap (λ (z : List Point). only_if b (λ c. got z c) (drop i s)) opens

  pub taken_done : starts 44 (drop i s) ≡ false → (leb least_ring (n + 1) && same (point x y) (point x0 y0)) ≡ true → ring how (drop at s) ≡ got r.before (drop i s)
  taken_done c e = final true c e

  pub taken_open : starts 44 (drop i s) ≡ false → (leb least_ring (n + 1) && same (point x y) (point x0 y0)) ≡ false → ring how (drop at s) ≡ wrong
  taken_open c e = final false c e

none_by : (how : Rules) (n : ℕ) (t : List ℕ) → pair how t ≡ wrong → points how n t ≡ wrong
unfolding points
none_by how zero t e = refl
none_by how (suc n) t e = rw e

pub ring_none : (how : Rules) (t : List ℕ) → pair how t ≡ wrong → ring how t ≡ wrong
unfolding ring
ring_none how t e = ap (λ (z : Parse (List Point)). and_then z closing) (none_by how (length t) t e)

-- ---- what an answer says, from what the grammar gives
pub post_wrong : (r : Parse (List Point)) (l : List Float) (k : ℕ) (q : List Float) → r ≡ wrong → (wrong ≡ counted r) × StoredBy r l k q
post_wrong r l k q e = (rw e, subst (λ (z : Parse (List Point)). StoredBy z l k q) (sym e) tt)

pub post_read : (r : Parse (List Point)) (ps : List Point) (n : ℕ) (t : List ℕ) (l : List Float) (k : ℕ) (q : List Float) → r ≡ got ps t → length ps ≡ n → q ≡ sets l (2 * k) (coords ps) → (got n t ≡ counted r) × StoredBy r l k q
post_read r ps n t l k q e c g = (rw (e, c), subst (λ (z : Parse (List Point)). StoredBy z l k q) (sym e) g)

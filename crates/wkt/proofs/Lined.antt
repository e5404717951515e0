-- Laws of the polygons' lines at a cursor: what has been read of them, line by line.
-- Assumes nothing.
use Rattle.std.proofs.Common.{◌≡◌, ℕ, zero, suc, ◌+◌, ◌-◌, ◌*◌, ◌<◌, ◌≤◌, Bool, true, false, cond, ◌&&◌, List, [], ◌∷◌, ◌++◌, length, drop, set, sym, refl, ap, ◌∙◌, subst, append-nil, arith, length-append, length-drop, drop_of_length-le}
use lib.Seq.{sets}
use lib.Ieee.{Float}
use Rattle.lists.proofs.Parts.{drop_here}
use Rattle.wkt.specs.Words.{ring_word, ring_end, empty_line}
use Rattle.wkt.specs.Parse.{Parse, got, wrong, and_then, join, begins, only_if}
use Rattle.wkt.specs.Rules.{Rules}
use Rattle.wkt.specs.Grammar.{Point, ring, ended, ring_line, polygon, until_end, polygons}
use Rattle.wkt.specs.Answer.{coords, all_coords, lengths, total}
use Rattle.wkt.specs.Cursor.{counted, StoredBy, tally, tallied, StoredAll}
use Rattle.wkt.proofs.Prefix.{not_wrong, not_got, same_got, prefixed, prefixed_join, prefixed_nil}
use Rattle.wkt.proofs.Stored.{ring_more, total_more, length_more}

-- ---- what an answer's count says of the points
pub record Found (r : Parse (List Point)) (n : ℕ) (t : List ℕ) : Type 0 where
  pub ps : List Point
  pub is : r ≡ got ps t
  pub count : length ps ≡ n

pub found : (r : Parse (List Point)) (n : ℕ) (t : List ℕ) → got n t ≡ counted r → Found r n t
found (got ps u) n t e =
    let q = same_got n (length ps) t u e in
    record { ps = ps; is = rw q.1; count = q.0 }
found wrong n t e = absurd (not_wrong n t e)

pub lost : (r : Parse (List Point)) → wrong ≡ counted r → r ≡ wrong
lost (got ps u) e = absurd (not_got (length ps) u e)
lost wrong e = refl

pub stored_of : (r : Parse (List Point)) (ps : List Point) (t : List ℕ) (l : List Float) (k : ℕ) (q : List Float) → r ≡ got ps t → StoredBy r l k q → q ≡ sets l (2 * k) (coords ps)
stored_of r ps t l k q e h = subst (λ (z : Parse (List Point)). StoredBy z l k q) e h

-- ---- a ring's line
module _ (how : Rules) (t : List ℕ) where
  pub line_none : begins how.letter ring_word t ≡ false → ring_line how t ≡ wrong
  unfolding ring_line
  line_none e = ap (λ (z : Bool). only_if z (λ a. and_then (ring how a) (ended how)) (drop (length ring_word) t)) e

  pub line_by : (r : Parse (List Point)) → begins how.letter ring_word t ≡ true → ring how (drop (length ring_word) t) ≡ r → ring_line how t ≡ and_then r (ended how)
  unfolding ring_line
  line_by r e g = ap (λ (z : Bool). only_if z (λ a. and_then (ring how a) (ended how)) (drop (length ring_word) t)) e ∙ ap (λ (z : Parse (List Point)). and_then z (ended how)) g

  pub line_end : (b : Bool) (ps : List Point) (u : List ℕ) → begins how.letter ring_word t ≡ true → ring how (drop (length ring_word) t) ≡ got ps u → begins how.letter ring_end u ≡ b → ring_line how t ≡ only_if b (λ c. got ps c) (drop (length ring_end) u)
  line_end b ps u e g h = line_by (got ps u) e g ∙ ap (λ (z : Bool). only_if z (λ c. got ps c) (drop (length ring_end) u)) h

-- ---- a polygon's line
module _ (how : Rules) (t : List ℕ) where
  pub polygon_empty : (how.empty && begins how.letter empty_line t) ≡ true → polygon how t ≡ got [] (drop (length empty_line) t)
  unfolding polygon
  polygon_empty e = ap (λ (z : Bool). cond z (got [] (drop (length empty_line) t)) (ring_line how t)) e

  pub polygon_ring : (how.empty && begins how.letter empty_line t) ≡ false → ring_line how t ≡ polygon how t
  unfolding polygon
  polygon_ring e = sym (ap (λ (z : Bool). cond z (got [] (drop (length empty_line) t)) (ring_line how t)) e)

-- ---- the lines: what has been read from `at` on: the rings `before`, up to i
pub record Lined (how : Rules) (s : List ℕ) (at : ℕ) (pts₀ : List Float) (lens₀ : List ℕ) (pts : List Float) (lens : List ℕ) (i m k : ℕ) : Type 0 where
  pub before : List (List Point)
  pub count : length before ≡ m
  pub sum : total before ≡ k
  pub parse : polygons how (length (drop at s)) (drop at s) ≡ prefixed before (polygons how (length s - at - m) (drop i s))
  pub points_are_in : pts ≡ sets pts₀ 0 (all_coords before)
  pub lens_in : lens ≡ sets lens₀ 0 (lengths before)
  pub within : i ≤ length s
  pub moved : at + m ≤ i
  pub few : k ≤ i

pub lined_start : (how : Rules) (s : List ℕ) (at : ℕ) (pts : List Float) (lens : List ℕ) → at ≤ length s → Lined how s at pts lens pts lens at 0 0
lined_start how s at pts lens h =
    let e : length (drop at s) ≡ length s - at - 0 = omega (arith, length-drop at s) in
    record {
      before = [];
      count = refl;
      sum = refl;
      parse = ap (λ (n : ℕ). polygons how n (drop at s)) e ∙ sym (prefixed_nil _);
      points_are_in = refl;
      lens_in = refl;
      within = h;
      moved = omega arith;
      few = omega arith;
    }

until_on : (s : List ℕ) (i : ℕ) (g : List ℕ → Parse (List (List Point))) → i < length s → until_end (drop i s) g ≡ g (drop i s)
until_on s i g h = ap (λ (l : List ℕ). until_end l g) (drop_here s i 0 h) ∙ sym (ap g (drop_here s i 0 h))

-- one line, and the n lines that are read after it
abbrev more : Rules → ℕ → List Point → List ℕ → Parse (List (List Point))
more how n ps b = join ps (polygons how n b)

polygons_suc : (how : Rules) (n m : ℕ) (s : List ℕ) (i : ℕ) → n ≡ suc m → i < length s → polygons how n (drop i s) ≡ and_then (polygon how (drop i s)) (more how m)
unfolding polygons
polygons_suc how n m s i e h = rw e (until_on s i (λ t. and_then (polygon how t) (more how m)) h)

polygons_end : (how : Rules) (n : ℕ) → polygons how n [] ≡ got [] []
unfolding polygons
polygons_end how zero = refl
polygons_end how (suc n) = refl

module _ (how : Rules) (s : List ℕ) (at : ℕ) (pts₀ : List Float) (lens₀ : List ℕ) (pts : List Float) (lens : List ℕ) (i m k : ℕ) (r : Lined how s at pts₀ lens₀ pts lens i m k) where
  step : (z : Parse (List Point)) → i < length s → polygon how (drop i s) ≡ z → polygons how (length (drop at s)) (drop at s) ≡ prefixed r.before (and_then z (more how (length s - at - (m + 1))))
  step z h g =
      let d = r.moved in
      let e : length s - at - m ≡ suc (length s - at - (m + 1)) = omega arith in
      r.parse
      ∙ ap (prefixed r.before) (polygons_suc how (length s - at - m) (length s - at - (m + 1)) s i e h)
      ∙ ap (λ (z : Parse (List Point)). prefixed r.before (and_then z (more how (length s - at - (m + 1))))) g

  pub lined_bad : i < length s → polygon how (drop i s) ≡ wrong → polygons how (length (drop at s)) (drop at s) ≡ wrong
  lined_bad h e = step wrong h e

  pub lined_more : (ps : List Point) (j n : ℕ) (pts' : List Float) (lens' : List ℕ) → i < length s → polygon how (drop i s) ≡ got ps (drop j s) → length ps ≡ n → pts' ≡ sets pts (2 * k) (coords ps) → lens' ≡ set lens m n
      → i + n < j → j ≤ length s
      → Lined how s at pts₀ lens₀ pts' lens' j (m + 1) (k + n)
  lined_more ps j n pts' lens' h e c p q g l =
      record {
        before = r.before ++ (ps ∷ []);
        count = omega (arith, length-append r.before (ps ∷ []), r.count);
        sum = omega (arith, total_more r.before ps, r.sum);
        parse = step (got ps (drop j s)) h e ∙ prefixed_join r.before ps (polygons how (length s - at - (m + 1)) (drop j s));
        points_are_in = p ∙ ap (λ (z : List Float). sets z (2 * k) (coords ps)) r.points_are_in ∙ ring_more pts₀ r.before k ps r.sum;
        lens_in = q ∙ ap (λ (z : List ℕ). set z m n) r.lens_in ∙ ap (set (sets lens₀ 0 (lengths r.before)) m) (sym c) ∙ length_more lens₀ r.before m ps r.count;
        within = l;
        moved = let d = r.moved in omega arith;
        few = let d = r.few in omega arith;
      }

  pub lined_done : length s ≤ i → (got (tally m k) [] ≡ tallied (polygons how (length (drop at s)) (drop at s))) × StoredAll (polygons how (length (drop at s)) (drop at s)) pts₀ lens₀ pts lens
  lined_done h =
      let e =
      r.parse
      ∙ ap (λ (t : List ℕ). prefixed r.before (polygons how (length s - at - m) t)) (drop_of_length-le s h)
      ∙ ap (prefixed r.before) (polygons_end how (length s - at - m))
      ∙ ap (λ (l : List (List Point)). got l []) (append-nil r.before) in (
        sym (ap tallied e ∙ ap (λ (x : ℕ). got (tally x (total r.before)) []) r.count ∙ ap (λ (x : ℕ). got (tally m x) []) r.sum),
        subst (λ (z : Parse (List (List Point))). StoredAll z pts₀ lens₀ pts lens) (sym e) (r.points_are_in, r.lens_in),
      )

pub all_wrong : (r : Parse (List (List Point))) (p : List Float) (l : List ℕ) (p' : List Float) (l' : List ℕ) → r ≡ wrong → (wrong ≡ tallied r) × StoredAll r p l p' l'
all_wrong r p l p' l' e = (rw e, subst (λ (z : Parse (List (List Point))). StoredAll z p l p' l') (sym e) tt)

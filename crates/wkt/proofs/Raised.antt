-- LETTERS IN EITHER CASE. `case_free`: a text and the same text with its letters raised are read alike. `alike`: so are two texts that differ in the case of
-- letters only. Both are cases of `text_raised`, over what letters count as. Assumes nothing.
use Rattle.std.proofs.Common.{◌≡◌, ℕ, zero, suc, ◌-◌, ◌<◌, ◌≤◌, Bool, true, false, cond, ◌&&◌, eqb, leb, List, [], ◌∷◌, length, drop, sym, refl, ap, ◌∙◌, arith, leb-false, leb-true}
use mathlib.Core.Bool.{and-eq-true_iff}
use lib.ListN.{length-map}
use lib.Ieee.{Float}
use borrow.Author.Tests.{lt-leb}
use Rattle.wkt.specs.Limits.{whole_digits, part_digits, least_ring, max_bytes}
use Rattle.wkt.specs.Words.{space, comma, post_word, post_end, ring_word, ring_end, empty_line}
use Rattle.wkt.specs.Parse.{Parse, got, wrong, and_then, join, starts, spells, begins, only_if, word, is_digit, cons_while, run, past, value_of}
use Rattle.wkt.specs.Rules.{Rules, capital_of, raised, rules}
use Rattle.wkt.specs.Number.{Digits, digits, digits_of, with_part, after_whole, with_whole, unsigned, number}
use Rattle.wkt.specs.Grammar.{Point, point, pair, after, points, closed, opened, closing, ring, ended, ring_line, polygon, Post, measured, measure, ranged, post_line, scene, polygons, posted, text_of}
use Rattle.wkt.specs.Answer.{text_in}
use Rattle.wkt.proofs.Letters.{capital_low, capital_high, plain}

-- ---- a byte
twice_by : (x : ℕ) (p q : Bool) → leb 97 x ≡ p → leb x 122 ≡ q → capital_of (cond (p && q) (x - 32) x) ≡ cond (p && q) (x - 32) x
twice_by x true true e f =
    let g : x ≤ 122 = leb-true _ _ f in
    sym (capital_low (x - 32) (omega arith))
twice_by x true false e f = sym (capital_high x (leb-true _ _ e) (leb-false _ _ f))
twice_by x false q e f = sym (capital_low x (leb-false _ _ e))

twice : (x : ℕ) → capital_of (capital_of x) ≡ capital_of x
twice x = twice_by x (leb 97 x) (leb x 122) refl refl

no_digit : (b : ℕ) → 57 < b → is_digit b ≡ false
no_digit b h = go (leb 48 b)
  where
    go : (p : Bool) → (p && leb b 57) ≡ false
    go true = lt-leb b 57 h
    go false = refl

digit_by : (x : ℕ) (p q : Bool) → leb 97 x ≡ p → leb x 122 ≡ q → is_digit (cond (p && q) (x - 32) x) ≡ is_digit x
digit_by x true true e f =
    let g : 97 ≤ x = leb-true _ _ e in
    no_digit (x - 32) (omega arith) ∙ sym (no_digit x (omega arith))
digit_by x true false e f = refl
digit_by x false q e f = refl

digit_raised : (x : ℕ) → is_digit (capital_of x) ≡ is_digit x
digit_raised x = digit_by x (leb 97 x) (leb x 122) refl refl

digit_kept : (x : ℕ) → is_digit x ≡ true → capital_of x ≡ x
digit_kept x e =
    let h : x ≤ 57 = leb-true _ _ ((and-eq-true_iff (leb 48 x) (leb x 57)).0 e).1 in
    sym (capital_low x (omega arith))

-- ---- the front of a text
drop_raised : (n : ℕ) (t : List ℕ) → drop n (raised t) ≡ raised (drop n t)
drop_raised zero t = refl
drop_raised (suc n) [] = refl
drop_raised (suc n) (x ∷ t) = drop_raised n t

-- a byte below A is no letter's
starts_raised : (b : ℕ) → b < 65 → (t : List ℕ) → starts b (raised t) ≡ starts b t
starts_raised b h [] = refl
starts_raised b h (x ∷ t) = plain b h (x ∷ t)

-- ---- an answer, the rest of its text raised
abbrev pub up : {A : Type 0} → Parse A → Parse A
up (got a t) = got a (raised t)
up wrong = wrong

-- two ways of reading on, k of a text and k' of the raised one, which agree but for the rest
module _ {A B : Type 0} (k' k : A → List ℕ → Parse B) (h : (a : A) (t : List ℕ) → k' a (raised t) ≡ up (k a t)) where
  up_then : (r : Parse A) → and_then (up r) k' ≡ up (and_then r k)
  up_then (got a t) = h a t
  up_then wrong = refl

  up_next : (s r : Parse A) → s ≡ up r → and_then s k' ≡ up (and_then r k)
  up_next s r e = ap (λ (z : Parse A). and_then z k') e ∙ up_then r

up_if : {A : Type 0} (b : Bool) (k' k : List ℕ → Parse A) (t : List ℕ) → ((t : List ℕ) → k' (raised t) ≡ up (k t)) → only_if b k' (raised t) ≡ up (only_if b k t)
up_if true k' k t h = h t
up_if false k' k t h = refl

up_join : {A : Type 0} (a : A) (s r : Parse (List A)) → s ≡ up r → join a s ≡ up (join a r)
up_join a = up_next (λ l t. got (a ∷ l) t) (λ l t. got (a ∷ l) t) (λ l t. refl)

-- ---- digits and numbers
run_raised : (t : List ℕ) → run (raised t) ≡ run t
run_raised [] = refl
run_raised (x ∷ t) = ap (λ (z : Bool). cons_while z (capital_of x) (run (raised t))) (digit_raised x) ∙ ap (cons_while (is_digit x) (capital_of x)) (run_raised t) ∙ go (is_digit x) refl
  where
    go : (d : Bool) → is_digit x ≡ d → cons_while d (capital_of x) (run t) ≡ cons_while d x (run t)
    go true e = ap (λ (z : ℕ). z ∷ run t) (digit_kept x e)
    go false e = refl

past_raised : (t : List ℕ) → past (raised t) ≡ raised (past t)
past_raised [] = refl
past_raised (x ∷ t) = ap (λ (z : Bool). cond z (past (raised t)) (capital_of x ∷ raised t)) (digit_raised x) ∙ go (is_digit x) (past_raised t)
  where
    go : (d : Bool) → past (raised t) ≡ raised (past t) → cond d (past (raised t)) (capital_of x ∷ raised t) ≡ raised (cond d (past t) (x ∷ t))
    go true e = e
    go false e = refl

-- what digits come to, from the run r and the text u behind it
abbrev ran : ℕ → List ℕ → List ℕ → Parse Digits
ran limit r u = cond (leb 1 (length r) && leb (length r) limit) (got (digits (value_of 0 r) (length r)) u) wrong

digits_raised : (limit : ℕ) (t : List ℕ) → digits_of limit (raised t) ≡ up (digits_of limit t)
unfolding digits_of
digits_raised limit t = ap (λ (r : List ℕ). ran limit r (past (raised t))) (run_raised t) ∙ ap (ran limit (run t)) (past_raised t) ∙ go (leb 1 (length (run t)) && leb (length (run t)) limit)
  where
    go : (b : Bool) → cond b (got (digits (value_of 0 (run t)) (length (run t))) (raised (past t))) wrong ≡ up (cond b (got (digits (value_of 0 (run t)) (length (run t))) (past t)) wrong)
    go true = refl
    go false = refl

module _ (w f : ℕ) where
  part_raised : (s : Bool) (n : ℕ) (d : Digits) (t : List ℕ) → with_part s n d (raised t) ≡ up (with_part s n d t)
  part_raised s n (digits v k) t = refl

  after_raised : (b s : Bool) (n : ℕ) (t : List ℕ) → after_whole b f s n (raised t) ≡ up (after_whole b f s n t)
  after_raised true s n t = up_next (with_part s n) (with_part s n) (part_raised s n) _ (digits_of f (drop 1 t)) (ap (digits_of f) (drop_raised 1 t) ∙ digits_raised f (drop 1 t))
  after_raised false s n t = refl

  whole_raised : (s : Bool) (d : Digits) (t : List ℕ) → with_whole f s d (raised t) ≡ up (with_whole f s d t)
  whole_raised s (digits n k) t = ap (λ (z : Bool). after_whole z f s n (raised t)) (starts_raised 46 (omega arith) t) ∙ after_raised (starts 46 t) s n t

  unsigned_raised : (s : Bool) (t : List ℕ) → unsigned w f s (raised t) ≡ up (unsigned w f s t)
  unfolding unsigned
  unsigned_raised s t = up_next (with_whole f s) (with_whole f s) (whole_raised s) _ (digits_of w t) (digits_raised w t)

  number_raised : (t : List ℕ) → number w f (raised t) ≡ up (number w f t)
  unfolding number
  number_raised t = ap (λ (z : Bool). unsigned w f z (cond z (drop 1 (raised t)) (raised t))) (starts_raised 45 (omega arith) t) ∙ go (starts 45 t)
    where
      go : (b : Bool) → unsigned w f b (cond b (drop 1 (raised t)) (raised t)) ≡ up (unsigned w f b (cond b (drop 1 t) t))
      go true = ap (unsigned w f true) (drop_raised 1 t) ∙ unsigned_raised true (drop 1 t)
      go false = unsigned_raised false t

-- ---- THE GRAMMAR, for a byte of the raised text that counts by g' as the byte itself does by g
module _ (w f : ℕ) (e : Bool) (g g' : ℕ → ℕ) (h : (x : ℕ) → g' (capital_of x) ≡ g x) where
  abbrev how : Rules
  how = record { whole = w; part = f; letter = g; empty = e }

  abbrev how' : Rules
  how' = record { whole = w; part = f; letter = g'; empty = e }

  -- ---- words
  spells_raised : (b : ℕ) (t : List ℕ) → spells g' b (raised t) ≡ spells g b t
  spells_raised b [] = refl
  spells_raised b (x ∷ t) = ap (λ (z : ℕ). eqb z b) (h x)

  begins_raised : (v t : List ℕ) → begins g' v (raised t) ≡ begins g v t
  begins_raised [] t = refl
  begins_raised (b ∷ v) t = ap (λ (z : Bool). z && begins g' v (drop 1 (raised t))) (spells_raised b t) ∙ ap (λ (z : List ℕ). spells g b t && begins g' v z) (drop_raised 1 t) ∙ ap (λ (z : Bool). spells g b t && z) (begins_raised v (drop 1 t))

  up_word : {A : Type 0} (v t : List ℕ) (k' k : List ℕ → Parse A) → ((t : List ℕ) → k' (raised t) ≡ up (k t)) → word g' v (raised t) k' ≡ up (word g v t k)
  up_word v t k' k i =
      ap (λ (z : Bool). only_if z k' (drop (length v) (raised t))) (begins_raised v t)
      ∙ ap (λ (z : List ℕ). only_if (begins g v t) k' z) (drop_raised (length v) t)
      ∙ up_if (begins g v t) k' k (drop (length v) t) i

  -- ---- points and rings
  pair_raised : (t : List ℕ) → pair how' (raised t) ≡ up (pair how t)
  unfolding pair
  pair_raised t =
      up_next _ _ (λ x a. up_word space a _ _ (λ b. up_next _ _ (λ y c. refl) _ (number w f b) (number_raised w f b))) _ (number w f t) (number_raised w f t)

  more_raised : (b : Bool) (p : Point) (t : List ℕ) (k' k : List ℕ → Parse (List Point)) → ((t : List ℕ) → k' (raised t) ≡ up (k t)) → after how' b p (raised t) k' ≡ up (after how b p t k)
  more_raised true p t k' k i = up_join p _ (word g comma t k) (up_word comma t k' k i)
  more_raised false p t k' k i = refl

  points_raised : (n : ℕ) (t : List ℕ) → points how' n (raised t) ≡ up (points how n t)
  unfolding points
  points_raised zero t = refl
  points_raised (suc n) t =
      up_next _ _ (λ p a. ap (λ (z : Bool). after how' z p (raised a) (points how' n)) (starts_raised 44 (omega arith) a) ∙ more_raised (starts 44 a) p a (points how' n) (points how n) (points_raised n)) _ (pair how t) (pair_raised t)

  closing_raised : (ps : List Point) (t : List ℕ) → closing ps (raised t) ≡ up (closing ps t)
  closing_raised ps t = up_if (leb least_ring (length ps) && closed ps) (λ c. got (opened ps) c) (λ c. got (opened ps) c) t (λ c. refl)

  ring_raised : (t : List ℕ) → ring how' (raised t) ≡ up (ring how t)
  unfolding ring
  ring_raised t = up_next closing closing closing_raised _ (points how (length t) t) (ap (λ (n : ℕ). points how' n (raised t)) (length-map t capital_of) ∙ points_raised (length t) t)

  -- ---- lines
  ended_raised : (ps : List Point) (t : List ℕ) → ended how' ps (raised t) ≡ up (ended how ps t)
  ended_raised ps t = up_word ring_end t (λ c. got ps c) (λ c. got ps c) (λ c. refl)

  line_raised : (t : List ℕ) → ring_line how' (raised t) ≡ up (ring_line how t)
  unfolding ring_line
  line_raised t = up_word ring_word t _ _ (λ a. up_next (ended how') (ended how) ended_raised _ (ring how a) (ring_raised a))

  pub polygon_raised : (t : List ℕ) → polygon how' (raised t) ≡ up (polygon how t)
  unfolding polygon
  polygon_raised t =
      ap (λ (z : Bool). cond (e && z) (got [] (drop (length empty_line) (raised t))) (ring_line how' (raised t))) (begins_raised empty_line t) ∙ go (e && begins g empty_line t)
    where
      go : (b : Bool) → cond b (got [] (drop (length empty_line) (raised t))) (ring_line how' (raised t)) ≡ up (cond b (got [] (drop (length empty_line) t)) (ring_line how t))
      go true = ap (λ (u : List ℕ). got [] u) (drop_raised (length empty_line) t)
      go false = line_raised t

  measured_raised : (m : Float) (t : List ℕ) → measured how' m (raised t) ≡ up (measured how m t)
  measured_raised m t = up_word post_end t (λ c. got m c) (λ c. got m c) (λ c. refl)

  measure_raised : (t : List ℕ) → measure how' (raised t) ≡ up (measure how t)
  unfolding measure
  measure_raised t = up_word space t _ _ (λ a. up_next (measured how') (measured how) measured_raised _ (number w f a) (number_raised w f a))

  ranged_raised : (p : Point) (t : List ℕ) → ranged how' p (raised t) ≡ up (ranged how p t)
  ranged_raised (point x y) t = up_next _ _ (λ m a. refl) _ (measure how t) (measure_raised t)

  post_raised : (t : List ℕ) → post_line how' (raised t) ≡ up (post_line how t)
  unfolding post_line
  post_raised t = up_word post_word t _ _ (λ a. up_next (ranged how') (ranged how) ranged_raised _ (pair how a) (pair_raised a))

  -- ---- the lines of polygons end with the text, so that nothing is left to raise
  line_on : (n : ℕ) → ((u : List ℕ) → polygons how' n (raised u) ≡ polygons how n u) → (r : Parse (List Point)) → and_then (up r) (λ ps u. join ps (polygons how' n u)) ≡ and_then r (λ ps u. join ps (polygons how n u))
  line_on n i (got ps u) = ap (join ps) (i u)
  line_on n i wrong = refl

  lines_on : (n : ℕ) → ((u : List ℕ) → polygons how' n (raised u) ≡ polygons how n u) → (t : List ℕ) → polygons how' (suc n) (raised t) ≡ polygons how (suc n) t
  unfolding polygons
  lines_on n i [] = refl
  lines_on n i (b ∷ t) = ap (λ (r : Parse (List Point)). and_then r (λ ps u. join ps (polygons how' n u))) (polygon_raised (b ∷ t)) ∙ line_on n i (polygon how (b ∷ t))

  lines_none : (t : List ℕ) → polygons how' zero (raised t) ≡ polygons how zero t
  unfolding polygons
  lines_none [] = refl
  lines_none (b ∷ t) = refl

  polygons_raised : (n : ℕ) (t : List ℕ) → polygons how' n (raised t) ≡ polygons how n t
  polygons_raised zero = lines_none
  polygons_raised (suc n) = lines_on n (polygons_raised n)

  posted_raised : (p : Post) (t : List ℕ) → posted how' p (raised t) ≡ posted how p t
  posted_raised p t = ap (λ (r : Parse (List (List Point))). and_then r (λ rs a. got (scene p rs) a)) (ap (λ (n : ℕ). polygons how' n (raised t)) (length-map t capital_of) ∙ polygons_raised (length t) t)

  -- ---- the whole text
  pub text_raised : (t : List ℕ) → text_of how' (raised t) ≡ text_of how t
  unfolding text_of
  text_raised t =
      ap (λ (n : ℕ). only_if (leb n max_bytes) (λ a. and_then (post_line how' a) (posted how')) (raised t)) (length-map t capital_of) ∙ go (leb (length t) max_bytes)
    where
      on : (r : Parse Post) → and_then (up r) (posted how') ≡ and_then r (posted how)
      on (got p u) = posted_raised p u
      on wrong = refl

      go : (b : Bool) → only_if b (λ a. and_then (post_line how' a) (posted how')) (raised t) ≡ only_if b (λ a. and_then (post_line how a) (posted how)) t
      go true = ap (λ (r : Parse Post). and_then r (posted how')) (post_raised t) ∙ on (post_line how t)
      go false = refl

-- ---- A TEXT AND THE SAME TEXT WITH ITS LETTERS RAISED are read alike; and so are two texts that differ in the case of letters only
pub case_free : (w f : ℕ) (t : List ℕ) → text_of (rules w f) (raised t) ≡ text_of (rules w f) t
case_free w f = text_raised w f true capital_of capital_of twice

pub alike : (t u : List ℕ) → raised t ≡ raised u → text_in t ≡ text_in u
alike t u e = sym (case_free whole_digits part_digits t) ∙ ap text_in e ∙ case_free whole_digits part_digits u

-- RULES THAT TAKE MORE. `text_more`: what is read of a text by some rules is read the same by wider ones. So a text that was read before a change of the rules is
-- read the same after it. One walk over the grammar serves every such law: `text_kept` is for texts of any kind that the ends of a text share with it, where the
-- numbers of such texts are read by both rules (proofs/Decimals.antt has another kind). Assumes nothing.
use Rattle.std.proofs.Common.{◌≡◌, ℕ, zero, suc, Bool, true, false, ◌&&◌, eqb, leb, List, [], ◌∷◌, ◌++◌, length, drop, sym, refl, ap, ◌∙◌, subst, arith, eq-eqb, eqb-true}
use mathlib.Core.Bool.{false≢true, and-eq-true_iff, and-false}
use lib.Ieee.{Float}
use Rattle.wkt.specs.Limits.{least_ring, max_bytes}
use Rattle.wkt.specs.Words.{bytes, space, comma, post_word, post_end, ring_word, ring_end, empty_line}
use Rattle.wkt.specs.Parse.{Parse, got, wrong, and_then, join, starts, spells, begins, only_if, word}
use Rattle.wkt.specs.Rules.{Rules, capital_of, Reads, Wider}
use Rattle.wkt.specs.Number.{number}
use Rattle.wkt.specs.Grammar.{Point, point, pair, after, points, closed, opened, closing, ring, ended, ring_line, polygon, Post, post, measured, measure, ranged, post_line, Text, scene, until_end, polygons, posted, text_of}
use Rattle.wkt.proofs.Prefix.{not_got, same_got}
use Rattle.wkt.proofs.Written.{dropped, number_more, number_end}
use Rattle.wkt.proofs.Lined.{line_none, polygon_empty, polygon_ring}

-- ---- no line is both a ring's and EMPTY: they part after their first eight bytes
module _ (g : ℕ → ℕ) where
  parts : (v t : List ℕ) (a b : ℕ) (x y : List ℕ) → begins g (v ++ (a ∷ x)) t ≡ true → begins g (v ++ (b ∷ y)) t ≡ true → a ≡ b
  parts [] [] a b x y e i = absurd (false≢true e)
  parts [] (z ∷ t) a b x y e i = sym (eqb-true (g z) a ((and-eq-true_iff (eqb (g z) a) (begins g x t)).0 e).0) ∙ eqb-true (g z) b ((and-eq-true_iff (eqb (g z) b) (begins g y t)).0 i).0
  parts (w ∷ v) t a b x y e i = parts v (drop 1 t) a b x y ((and-eq-true_iff (spells g w t) (begins g (v ++ (a ∷ x)) (drop 1 t))).0 e).1 ((and-eq-true_iff (spells g w t) (begins g (v ++ (b ∷ y)) (drop 1 t))).0 i).1

  not_both : (t : List ℕ) → begins g ring_word t ≡ true → begins g empty_line t ≡ false
  not_both t e = go (begins g empty_line t) refl
    where
      go : (b : Bool) → begins g empty_line t ≡ b → b ≡ false
      go true i = let z : ◌≡◌ {A = ℕ} 40 69 = parts (bytes "POLYGON ") t 40 69 (bytes "(") (bytes "MPTY\n") e i in absurd (omega arith)
      go false i = refl

-- ---- what r read is read by r' too, and what is left is of the kind P
record Kept (P : List ℕ → Type 0) {A : Type 0} (r r' : Parse A) : Type 0 where
  pub is : (a : A) (u : List ℕ) → r ≡ got a u → (r' ≡ got a u) × P u

-- each by the other: they are the same
pub kept_both : {A : Type 0} (r r' : Parse A) → ((a : A) (u : List ℕ) → r ≡ got a u → r' ≡ got a u) → ((a : A) (u : List ℕ) → r' ≡ got a u → r ≡ got a u) → r ≡ r'
kept_both (got a u) r' p q = sym (p a u refl)
kept_both wrong (got a u) p q = q a u refl
kept_both wrong wrong p q = refl

-- ---- a word has no small letter
abbrev upper : List ℕ → Bool
upper [] = true
upper (b ∷ v) = eqb (capital_of b) b && upper v

-- an end of a text of the kind P is of this kind
module _ (P : List ℕ → Type 0) (tail : (b : ℕ) (t : List ℕ) → P (b ∷ t) → P t) where
  module _ {A : Type 0} where
    kept_got : (a : A) (u : List ℕ) → P u → Kept P (got a u) (got a u)
    kept_got a u p = record { is = λ b v e. (e, subst P (sym (same_got a b u v e).1) p) }

    kept_wrong : (r : Parse A) → Kept P wrong r
    kept_wrong r = record { is = λ a u e. absurd (not_got a u e) }

    kept_if : (b b' : Bool) (k k' : List ℕ → Parse A) (t : List ℕ) → (b ≡ true → b' ≡ true) → P t → ((t : List ℕ) → P t → Kept P (k t) (k' t)) → Kept P (only_if b k t) (only_if b' k' t)
    kept_if true b' k k' t i p h = record { is = λ a u e. (ap (λ (z : Bool). only_if z k' t) (i refl) ∙ ((h t p).is a u e).0, ((h t p).is a u e).1) }
    kept_if false b' k k' t i p h = kept_wrong (only_if b' k' t)

  kept_until : {A : Type 0} (t : List ℕ) (k k' : List ℕ → Parse (List A)) → P t → ((t : List ℕ) → P t → Kept P (k t) (k' t)) → Kept P (until_end t k) (until_end t k')
  kept_until [] k k' p h = kept_got [] [] p
  kept_until (b ∷ t) k k' p h = h (b ∷ t) p

  module _ {A B : Type 0} (k k' : A → List ℕ → Parse B) (h : (a : A) (t : List ℕ) → P t → Kept P (k a t) (k' a t)) where
    then_by : (r r' : Parse A) → ((a : A) (u : List ℕ) → r ≡ got a u → (r' ≡ got a u) × P u) → (b : B) (u : List ℕ) → and_then r k ≡ got b u → (and_then r' k' ≡ got b u) × P u
    then_by (got a t) r' p b u e =
        let q = p a t refl in
        let z = (h a t q.1).is b u e in
        (ap (λ (z : Parse A). and_then z k') q.0 ∙ z.0, z.1)
    then_by wrong r' p b u e = absurd (not_got b u e)

    kept_then : (r r' : Parse A) → Kept P r r' → Kept P (and_then r k) (and_then r' k')
    kept_then r r' p = record { is = then_by r r' p.is }

  kept_join : {A : Type 0} (a : A) (r r' : Parse (List A)) → Kept P r r' → Kept P (join a r) (join a r')
  kept_join a = kept_then (λ l t. got (a ∷ l) t) (λ l t. got (a ∷ l) t) (λ l t p. kept_got (a ∷ l) t p)

  -- ---- by the rules of which the numbers of such texts, and the words of all, are read by how' too
  module _ (how how' : Rules)
      (N : (t : List ℕ) → P t → (x : Float) (u : List ℕ) → number how.whole how.part t ≡ got x u → number how'.whole how'.part t ≡ got x u)
      (L : (b c : ℕ) → capital_of c ≡ c → how.letter b ≡ c → how'.letter b ≡ c) where
    more_begins : (v t : List ℕ) → upper v ≡ true → begins how.letter v t ≡ true → begins how'.letter v t ≡ true
    more_begins [] t h e = refl
    more_begins (b ∷ v) [] h e = absurd (false≢true e)
    more_begins (b ∷ v) (x ∷ t) h e =
        let p = (and-eq-true_iff (eqb (capital_of b) b) (upper v)).0 h in
        let q = (and-eq-true_iff (eqb (how.letter x) b) (begins how.letter v t)).0 e in
        (and-eq-true_iff (eqb (how'.letter x) b) (begins how'.letter v t)).1 (eq-eqb _ _ (L x b (eqb-true _ _ p.0) (eqb-true _ _ q.0)), more_begins v t p.1 q.1)

    kept_word : {A : Type 0} (v t : List ℕ) (k k' : List ℕ → Parse A) → upper v ≡ true → P t → ((t : List ℕ) → P t → Kept P (k t) (k' t)) → Kept P (word how.letter v t k) (word how'.letter v t k')
    kept_word v t k k' c p h = kept_if (begins how.letter v t) (begins how'.letter v t) k k' (drop (length v) t) (more_begins v t c) (dropped P tail (length v) t p) h

    kept_number : (t : List ℕ) → P t → Kept P (number how.whole how.part t) (number how'.whole how'.part t)
    kept_number t p = record { is = λ x u e. (N t p x u e, number_end P tail how.whole how.part t x u e p) }

    -- ---- points and rings
    kept_pair : (t : List ℕ) → P t → Kept P (pair how t) (pair how' t)
    unfolding pair
    kept_pair t p =
        kept_then _ _ (λ x a q. kept_word space a _ _ refl q (λ b r. kept_then _ _ (λ y c s. kept_got (point x y) c s) (number how.whole how.part b) (number how'.whole how'.part b) (kept_number b r)))
        (number how.whole how.part t) (number how'.whole how'.part t) (kept_number t p)

    kept_after : (b : Bool) (p : Point) (t : List ℕ) (k k' : List ℕ → Parse (List Point)) → P t → ((t : List ℕ) → P t → Kept P (k t) (k' t)) → Kept P (after how b p t k) (after how' b p t k')
    kept_after true p t k k' q h = kept_join p (word how.letter comma t k) (word how'.letter comma t k') (kept_word comma t k k' refl q h)
    kept_after false p t k k' q h = kept_got (p ∷ []) t q

    kept_points : (n : ℕ) (t : List ℕ) → P t → Kept P (points how n t) (points how' n t)
    unfolding points
    kept_points zero t p = kept_wrong wrong
    kept_points (suc n) t p = kept_then _ _ (λ c a q. kept_after (starts 44 a) c a (points how n) (points how' n) q (kept_points n)) (pair how t) (pair how' t) (kept_pair t p)

    kept_ring : (t : List ℕ) → P t → Kept P (ring how t) (ring how' t)
    unfolding ring
    kept_ring t p =
        kept_then closing closing (λ ps a q. kept_if (leb least_ring (length ps) && closed ps) (leb least_ring (length ps) && closed ps) _ _ a (λ e. e) q (λ b r. kept_got (opened ps) b r))
        (points how (length t) t) (points how' (length t) t) (kept_points (length t) t p)

    -- ---- lines
    kept_line : (t : List ℕ) → P t → Kept P (ring_line how t) (ring_line how' t)
    unfolding ring_line
    kept_line t p = kept_word ring_word t _ _ refl p (λ a q. kept_then (ended how) (ended how') (λ ps b r. kept_word ring_end b _ _ refl r (λ c s. kept_got ps c s)) (ring how a) (ring how' a) (kept_ring a q))

    -- where a ring's line is read, EMPTY does not stand in its way
    ring_kept : (t : List ℕ) → P t → Kept P (ring_line how t) (polygon how' t)
    ring_kept t p = go (begins how.letter ring_word t) refl
      where
        go : (b : Bool) → begins how.letter ring_word t ≡ b → Kept P (ring_line how t) (polygon how' t)
        go true i =
            record {
              is = λ ps u e.
                  (sym (polygon_ring how' t (ap (λ (z : Bool). how'.empty && z) (not_both how'.letter t (more_begins ring_word t refl i)) ∙ and-false how'.empty)) ∙ ((kept_line t p).is ps u e).0, ((kept_line t p).is ps u e).1);
            }
        go false i = record { is = λ ps u e. absurd (not_got ps u (sym (line_none how t i) ∙ e)) }

    kept_post : (t : List ℕ) → P t → Kept P (post_line how t) (post_line how' t)
    unfolding post_line measure
    kept_post t p =
        kept_word post_word t _ _ refl p (λ a q. kept_then (ranged how) (ranged how') by_ranged (pair how a) (pair how' a) (kept_pair a q))
      where
        by_measured : (m : Float) (t : List ℕ) → P t → Kept P (measured how m t) (measured how' m t)
        by_measured m t p = kept_word post_end t _ _ refl p (λ c q. kept_got m c q)

        by_ranged : (c : Point) (t : List ℕ) → P t → Kept P (ranged how c t) (ranged how' c t)
        by_ranged (point x y) t p =
            kept_then _ _ (λ m a q. kept_got (post x y m) a q) (measure how t) (measure how' t)
            (kept_word space t _ _ refl p (λ a q. kept_then (measured how) (measured how') by_measured (number how.whole how.part a) (number how'.whole how'.part a) (kept_number a q)))

    -- ---- the whole text, where EMPTY is still taken if it was
    module _ (E : how.empty ≡ true → how'.empty ≡ true) where
      kept_polygon : (t : List ℕ) → P t → Kept P (polygon how t) (polygon how' t)
      kept_polygon t p = go (how.empty && begins how.letter empty_line t) refl
        where
          go : (b : Bool) → (how.empty && begins how.letter empty_line t) ≡ b → Kept P (polygon how t) (polygon how' t)
          go true i =
              let q = (and-eq-true_iff how.empty (begins how.letter empty_line t)).0 i in
              let j = (and-eq-true_iff how'.empty (begins how'.letter empty_line t)).1 (E q.0, more_begins empty_line t refl q.1) in
              let none = kept_got {A = List Point} [] (drop (length empty_line) t) (dropped P tail (length empty_line) t p) in
              record { is = λ ps u e. let z = none.is ps u (sym (polygon_empty how t i) ∙ e) in (polygon_empty how' t j ∙ z.0, z.1) }
          go false i = record { is = λ ps u e. (ring_kept t p).is ps u (polygon_ring how t i ∙ e) }

      kept_polygons : (n : ℕ) (t : List ℕ) → P t → Kept P (polygons how n t) (polygons how' n t)
      unfolding polygons
      kept_polygons zero t p = kept_until t (λ _. wrong) (λ _. wrong) p (λ a q. kept_wrong wrong)
      kept_polygons (suc n) t p =
          kept_until t _ _ p (λ a q. kept_then _ _ (λ ps b r. kept_join ps (polygons how n b) (polygons how' n b) (kept_polygons n b r)) (polygon how a) (polygon how' a) (kept_polygon a q))

      kept_posted : (h : Post) (t : List ℕ) → P t → Kept P (posted how h t) (posted how' h t)
      kept_posted h t p = kept_then _ _ (λ rs a q. kept_got (scene h rs) a q) (polygons how (length t) t) (polygons how' (length t) t) (kept_polygons (length t) t p)

      pub text_kept : (t : List ℕ) → P t → (x : Text) (u : List ℕ) → text_of how t ≡ got x u → text_of how' t ≡ got x u
      unfolding text_of
      text_kept t p x u e =
          ((kept_if (leb (length t) max_bytes) (leb (length t) max_bytes) _ _ t (λ e. e) p (λ a q. kept_then (posted how) (posted how') kept_posted (post_line how a) (post_line how' a) (kept_post a q))).is x u e).0

-- ---- of all texts
module _ (how how' : Rules) (W : Reads how how') where
  abbrev Any : List ℕ → Type 0
  Any t = Unit {0}

  any : (b : ℕ) (t : List ℕ) → Any (b ∷ t) → Any t
  any b t p = tt

  numbers : (t : List ℕ) → Any t → (x : Float) (u : List ℕ) → number how.whole how.part t ≡ got x u → number how'.whole how'.part t ≡ got x u
  numbers t p x u e = ap (λ (w : ℕ). number w how'.part t) (sym W.whole) ∙ number_more how.whole how.part how'.part W.part t x u e

  pub ring_more : (t : List ℕ) (ps : List Point) (u : List ℕ) → ring_line how t ≡ got ps u → polygon how' t ≡ got ps u
  ring_more t ps u e = ((ring_kept Any any how how' numbers W.letter t tt).is ps u e).0

  pub post_more : (t : List ℕ) (p : Post) (u : List ℕ) → post_line how t ≡ got p u → post_line how' t ≡ got p u
  post_more t p u e = ((kept_post Any any how how' numbers W.letter t tt).is p u e).0

  any_more : (how.empty ≡ true → how'.empty ≡ true) → (t : List ℕ) (x : Text) (u : List ℕ) → text_of how t ≡ got x u → text_of how' t ≡ got x u
  any_more E t = text_kept Any any how how' numbers W.letter E t tt

-- WHAT IS READ BY SOME RULES is read the same by wider ones
pub text_more : (how how' : Rules) → Wider how how' → (t : List ℕ) (x : Text) (u : List ℕ) → text_of how t ≡ got x u → text_of how' t ≡ got x u
text_more how how' W = any_more how how' W.words W.empty

-- Laws of the post's line and of the whole text.
-- Assumes nothing.
use Rattle.std.proofs.Common.{◌≡◌, ℕ, ◌<◌, ◌≤◌, Bool, true, false, ◌&&◌, Option, Some, None, Result, Err, List, [], length, drop, sym, refl, ap, ◌∙◌, subst, le-leb}
use borrow.Author.Tests.{lt-leb}
use lib.Ieee.{Float}
use Rattle.wkt.specs.Limits.{max_bytes}
use Rattle.wkt.specs.Words.{post_word, post_end}
use Rattle.wkt.specs.Parse.{Parse, got, wrong, and_then, spells, begins, only_if}
use Rattle.wkt.specs.Number.{number}
use Rattle.wkt.specs.Rules.{Rules}
use Rattle.wkt.specs.Grammar.{Point, point, pair, Post, post, measured, measure, ranged, post_line, posted, Text, scene, text_of}
use Rattle.wkt.specs.Answer.{total, input_of}
use Rattle.wkt.specs.Cursor.{tally, tallied, lines_seen, StoredAll, StoredText, answer_of}
use Rattle.wkt.specs.declared.Lines.{Lines}
use Rattle.wkt.specs.declared.Input.{Input}
use Rattle.refusal.specs.declared.Refusal.{Refusal}
use Rattle.refusal.specs.declared.Refusal.TheVariants.{NotAsLaidOut}
use Rattle.wkt.proofs.Prefix.{not_wrong, not_got, same_got}

module _ (how : Rules) (t : List ℕ) where
  pub measure_none : spells how.letter 32 t ≡ false → wrong ≡ measure how t
  unfolding measure
  measure_none p = rw p

  pub measure_bad : spells how.letter 32 t ≡ true → number how.whole how.part (drop 1 t) ≡ wrong → wrong ≡ measure how t
  unfolding measure
  measure_bad p q = rw (p, q)

  pub measure_end : (b : Bool) (m : Float) (u : List ℕ) → spells how.letter 32 t ≡ true → number how.whole how.part (drop 1 t) ≡ got m u → begins how.letter post_end u ≡ b → only_if b (λ c. got m c) (drop (length post_end) u) ≡ measure how t
  unfolding measure
  measure_end b m u p q e =
      sym (ap (λ (z : Bool). only_if (z && true) (λ a. and_then (number how.whole how.part a) (measured how)) (drop 1 t)) p
      ∙ ap (λ (z : Parse Float). and_then z (measured how)) q
      ∙ ap (λ (z : Bool). only_if z (λ c. got m c) (drop (length post_end) u)) e)

  pub post_none : begins how.letter post_word t ≡ false → wrong ≡ post_line how t
  unfolding post_line
  post_none p = sym (ap (λ (z : Bool). only_if z (λ a. and_then (pair how a) (ranged how)) (drop (length post_word) t)) p)

  pub post_by : (r : Parse Point) → begins how.letter post_word t ≡ true → pair how (drop (length post_word) t) ≡ r → and_then r (ranged how) ≡ post_line how t
  unfolding post_line
  post_by r p q = sym (ap (λ (z : Bool). only_if z (λ a. and_then (pair how a) (ranged how)) (drop (length post_word) t)) p ∙ ap (λ (z : Parse Point). and_then z (ranged how)) q)

  pub post_end_lem : (x y : Float) (u : List ℕ) (r : Parse Float) → begins how.letter post_word t ≡ true → pair how (drop (length post_word) t) ≡ got (point x y) u → measure how u ≡ r → and_then r (λ m c. got (post x y m) c) ≡ post_line how t
  post_end_lem x y u r p q e = ap (λ (z : Parse Float). and_then z (λ m c. got (post x y m) c)) (sym e) ∙ post_by (got (point x y) u) p q

  pub text_long : max_bytes < length t → text_of how t ≡ wrong
  unfolding text_of
  text_long h = ap (λ (z : Bool). only_if z (λ a. and_then (post_line how a) (posted how)) t) (lt-leb (length t) max_bytes h)

  pub text_by : (r : Parse Post) → length t ≤ max_bytes → post_line how t ≡ r → text_of how t ≡ and_then r (posted how)
  unfolding text_of
  text_by r h e = ap (λ (z : Bool). only_if z (λ a. and_then (post_line how a) (posted how)) t) (le-leb (length t) max_bytes h) ∙ ap (λ (z : Parse Post). and_then z (posted how)) e

-- ---- the answers
pub say_nine : (P : Parse Text) (a : List Float) (b : List ℕ) (c : List Float) (d : List ℕ) → P ≡ wrong → (◌≡◌ {A = Result Input Refusal} (Err NotAsLaidOut) (input_of P)) × StoredText P a b c d
say_nine P a b c d e = (rw e, subst (λ (z : Parse Text). StoredText z a b c d) (sym e) tt)

-- what the lines' answer says of the whole: `lines` is what was seen of the rings R
module _ (x y m : Float) where
  abbrev all : Parse (List (List Point)) → Parse Text
  all r = and_then r (λ rs t. got (scene (post x y m) rs) t)

  seen_by : (R : Parse (List (List Point))) (lines : Option Lines) → lines_seen lines ≡ tallied R → answer_of x y m lines ≡ input_of (all R)
  seen_by (got rs u) (Some r) e =
      let s = (same_got (tally r.polygons r.points) (tally (length rs) (total rs)) [] u e).0 in
      let a : r.polygons ≡ length rs = cc in
      let b : r.points ≡ total rs = cc in
      rw (a, b)
  seen_by (got rs u) None e = absurd (not_got (tally (length rs) (total rs)) u e)
  seen_by wrong (Some r) e = absurd (not_wrong (tally r.polygons r.points) [] e)
  seen_by wrong None e = refl

  stored_by : (R : Parse (List (List Point))) (a : List Float) (b : List ℕ) (c : List Float) (d : List ℕ) → StoredAll R a b c d → StoredText (all R) a b c d
  stored_by (got rs u) a b c d s = s
  stored_by wrong a b c d s = tt

  pub say_all : (P : Parse Text) (R : Parse (List (List Point))) (lines : Option Lines) (a : List Float) (b : List ℕ) (c : List Float) (d : List ℕ) → P ≡ all R → lines_seen lines ≡ tallied R → StoredAll R a b c d
      → (answer_of x y m lines ≡ input_of P) × StoredText P a b c d
  say_all P R lines a b c d e s k = (seen_by R lines s ∙ ap input_of (sym e), subst (λ (z : Parse Text). StoredText z a b c d) (sym e) (stored_by R a b c d k))

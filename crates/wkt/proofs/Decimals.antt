-- WHAT MORE DECIMALS MOVE (document 02, Q-7: "Old files read to the same values as before"; "9 is no longer given for 4 to 6 decimals; 7 and more stay 9").
-- `as_before`: a text in which no decimal point has 4 to 6 digits after it is read to the same values, or refused, as it was with at most three. `old_text`: a text
-- that was read then is read the same. Both are cases of laws over any two counts, f before and g now: `text_unmoved`, `decimals_kept`. `six_read` and `six_most`: a
-- number of up to six decimals is read, and what is read has no more. Assumes nothing.
use Rattle.std.proofs.Common.{◌≡◌, ℕ, ◌≤◌, true, List, [], ◌∷◌, length, drop, refl, ⊎_elim, arith, eqb-true}
use mathlib.Core.Bool.{false≢true}
use lib.Ieee.{Float}
use Rattle.wkt.specs.Limits.{whole_digits, part_digits, former_part_digits}
use Rattle.wkt.specs.Words.{point_byte}
use Rattle.wkt.specs.Parse.{got, starts, run}
use Rattle.wkt.specs.Rules.{rules, Wider}
use Rattle.wkt.specs.Number.{Digits, digits, digits_of, number}
use Rattle.wkt.specs.Grammar.{Text, text_of}
use Rattle.wkt.specs.Numeral.{Numeral, Stands, Unmoved}
use Rattle.wkt.specs.Answer.{text_in}
use Rattle.wkt.proofs.Written.{Written, ran, again, number_by, float_of, number_nearest, number_read}
use Rattle.wkt.proofs.Wider.{kept_both, text_kept, text_more}

-- ---- f before, g now
module _ (f g : ℕ) where
  later : (b : ℕ) (t : List ℕ) → Unmoved f g (b ∷ t) → Unmoved f g t
  later b t h = h.1

  -- at a point: digits that are read now were read before
  here : (t : List ℕ) → Unmoved f g t → starts point_byte t ≡ true → (d : Digits) (u : List ℕ) → digits_of g (drop 1 t) ≡ got d u → digits_of f (drop 1 t) ≡ got d u
  here [] h e d u i = absurd (false≢true e)
  here (b ∷ t) h e (digits v k) u i =
      let r = ran g t v k u i in
      let few : length (run t) ≤ f = ⊎_elim (λ l. l) (λ l. absurd (omega (arith, r.few))) (h.0 (eqb-true b point_byte e)) in
      again f t v k u r few

  module _ (w : ℕ) (l : f ≤ g) where
    wider : Wider (rules w f) (rules w g)
    wider = record { words = record { whole = refl; part = l; letter = λ b c k e. e }; empty = λ e. e }

    pub decimals_kept : (t : List ℕ) (x : Text) (u : List ℕ) → text_of (rules w f) t ≡ got x u → text_of (rules w g) t ≡ got x u
    decimals_kept = text_more (rules w f) (rules w g) wider

    pub text_unmoved : (t : List ℕ) → Unmoved f g t → text_of (rules w f) t ≡ text_of (rules w g) t
    text_unmoved t h =
        kept_both (text_of (rules w f) t) (text_of (rules w g) t) (decimals_kept t)
        (text_kept (Unmoved f g) later (rules w g) (rules w f) (number_by (Unmoved f g) later g f here w) (λ b c k e. e) (λ e. e) t h)

-- ---- three before, six now
pub old_text : (t : List ℕ) (x : Text) (u : List ℕ) → text_of (rules whole_digits former_part_digits) t ≡ got x u → text_in t ≡ got x u
old_text = decimals_kept former_part_digits part_digits whole_digits (omega arith)

pub as_before : (t : List ℕ) → Unmoved former_part_digits part_digits t → text_of (rules whole_digits former_part_digits) t ≡ text_in t
as_before = text_unmoved former_part_digits part_digits whole_digits (omega arith)

-- ---- and six they are: document 02's own numbers, 7 digits and 6
pub six_read : (n : Numeral) (t rest : List ℕ) → Stands 7 6 n t rest → number whole_digits part_digits t ≡ got (float_of n) rest
six_read n t rest h = number_read 7 6 n t rest h

pub six_most : (t : List ℕ) (x : Float) (rest : List ℕ) → number whole_digits part_digits t ≡ got x rest → Written 7 6 t rest x
six_most t x rest e = number_nearest 7 6 (omega arith) t x rest e

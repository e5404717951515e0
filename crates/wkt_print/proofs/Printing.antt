-- Texts printed one after the other, and in a loop.
-- Assumes nothing.
use mathlib.Core.Path.{◌≡◌, refl, sym, ap, ◌∙◌, subst}
use mathlib.Core.Bool.{Bool, not, ◌&&◌}
use mathlib.Core.List.{List, [], ◌∷◌, ◌++◌, append_assoc, append-nil}
use Prim.Native.Nat.{ℕ, suc, ◌+◌, ◌-◌, ◌*◌, ◌/◌, ◌%◌, ◌^◌, ◌≤◌, ◌<◌}
use native.Mathlib.Nat.{add-zero, pow-suc, lt_of_lt_of_le, le_of_eq}
use native.Mathlib.Omega.{arith}
use lib.ListN.{length, set, get_or, length-append}
use lib.Seq.{sets, set_comm}
use lib.Dec.{eqb}
use lib.Ieee.{Float, nan, lt, of_bits, binary64}
use Rattle.lists.proofs.Stores.{sets_append}
use Rattle.wkt.specs.Words.{minus_if, comma, ring_word, ring_end, empty_line}
use Rattle.wkt.specs.Grammar.{point}
use Rattle.wkt_print.specs.Decimal.{scaled_of, fixed, whole_text, shown, Printed}
use Rattle.wkt_print.specs.Lines.{points_of, point_text, list_text, polygon_text}
use Rattle.wkt_print.proofs.Widths.{fixed_last, length_fixed}

module _ {l l1 : List ℕ} {at i : ℕ} where
  pub then : {l2 : List ℕ} {j : ℕ} {a b : List ℕ} → Printed l at a l1 i → Printed l1 i b l2 j → Printed l at (a ++ b) l2 j
  then {l2} {j} {a} {b} p q =
      record {
        text = q.text ∙ ap (λ (k : ℕ). sets l1 k b) p.next ∙ ap (λ (z : List ℕ). sets z (at + length a) b) p.text ∙ sym (sets_append l at a b);
        next = let x = p.next in let y = q.next in omega (arith, length-append a b);
      }

pub byte : (l : List ℕ) (at b : ℕ) (l1 : List ℕ) (r : ℕ) → l1 ≡ set l at b → r ≡ at + 1 → Printed l at (b ∷ []) l1 r
byte l at b l1 r e h = record { text = e; next = h }

pub nothing : (l : List ℕ) (at : ℕ) → Printed l at [] l at
nothing l at = record { text = refl; next = sym (add-zero at) }

pub say : {l l1 : List ℕ} {at r : ℕ} {a b : List ℕ} → a ≡ b → Printed l at a l1 r → Printed l at b l1 r
say {l} {l1} {at} {r} e p = subst (λ (t : List ℕ). Printed l at t l1 r) e p

-- ---- in a loop: what is left of t, printed from j on, ends as t printed from the start
pub record Left (l₀ : List ℕ) (at : ℕ) (t : List ℕ) (l : List ℕ) (j : ℕ) (rest : List ℕ) : Type 0 where
  pub text : sets l j rest ≡ sets l₀ at t
  pub next : j + length rest ≡ at + length t

pub left_start : (l : List ℕ) (at : ℕ) (t : List ℕ) → Left l at t l at t
left_start l at t = record { text = refl; next = refl }

module _ {l₀ : List ℕ} {at : ℕ} {t l : List ℕ} {j : ℕ} {rest : List ℕ} (p : Left l₀ at t l j rest) where
  pub left_more : {a l' : List ℕ} {j' : ℕ} (rest' : List ℕ) → rest ≡ a ++ rest' → Printed l j a l' j' → Left l₀ at t l' j' rest'
  left_more {a} {l'} {j'} rest' e q =
      record {
        text = ap (λ (k : ℕ). sets l' k rest') q.next ∙ ap (λ (z : List ℕ). sets z (j + length a) rest') q.text ∙ sym (ap (sets l j) e ∙ sets_append l j a rest') ∙ p.text;
        next = let x = p.next in let y = q.next in omega (arith, ap length e, length-append a rest');
      }

  pub left_done : rest ≡ [] → Printed l₀ at t l j
  left_done e =
      record {
        text = sym (sym p.text ∙ ap (sets l j) e);
        next = let x = p.next in omega (arith, ap length e);
      }

  pub left_place : j ≤ at + length t
  left_place = let x = p.next in omega arith

-- ---- a number by its parts
pub shown_is : (places : ℕ) (x : Float) (q p : ℕ) (b : Bool) → q ≡ scaled_of places x → p ≡ 10 ^ places → b ≡ (lt x (of_bits binary64 0) && not (eqb q 0))
    → minus_if b ++ (whole_text (q / p) ++ (46 ∷ fixed places (q % p))) ≡ shown places x
unfolding shown
shown_is places x q p b eq ep eb = rw (eb, ep, eq)

-- ---- the points of a part
pub points_end : (l : List Float) → length l ≤ 1 → points_of l ≡ []
points_end [] h = refl
points_end (x ∷ []) h = refl
points_end (x ∷ y ∷ l) h = absurd (omega arith)

pub list_next : (places : ℕ) (a l : List Float) → length a ≡ 2 → list_text places (points_of (a ++ l)) ≡ (point_text places (point (get_or a 0 nan) (get_or a 1 nan)) ++ comma) ++ list_text places (points_of l)
list_next places [] l h = absurd (omega arith)
list_next places (x ∷ []) l h = absurd (omega arith)
list_next places (x ∷ y ∷ []) l h = sym (append_assoc (point_text places (point x y)) comma (list_text places (points_of l)))
list_next places (x ∷ y ∷ z ∷ a) l h = absurd (omega arith)

pub polygon_none : (places : ℕ) (l : List Float) → length l < 2 → empty_line ≡ polygon_text places (points_of l)
polygon_none places l h = sym (ap (polygon_text places) (points_end l (omega arith)))

pub polygon_some : (places : ℕ) (l : List Float) → 2 ≤ length l
    → ring_word ++ (list_text places (points_of l) ++ (point_text places (point (get_or l 0 nan) (get_or l 1 nan)) ++ ring_end)) ≡ polygon_text places (points_of l)
polygon_some places [] h = absurd (omega arith)
polygon_some places (x ∷ []) h = absurd (omega arith)
polygon_some places (x ∷ y ∷ l) h = refl

-- ---- digits, from the last one on: a byte stored in front of what was stored already
set_before : (l : List ℕ) (i j b : ℕ) (vs : List ℕ) → i < j → set (sets l j vs) i b ≡ sets (set l i b) j vs
set_before l i j b [] h = refl
set_before l i j b (v ∷ vs) h = set_before (set l j v) i (suc j) b vs (omega arith) ∙ ap (λ (z : List ℕ). sets z (suc j) vs) (set_comm l j i v b (λ e. omega arith))

-- the digits of n behind its first j are written, and m has those that are left
pub record Behind (l₀ : List ℕ) (at k n : ℕ) (l : List ℕ) (m j : ℕ) : Type 0 where
  pub written : List ℕ
  pub digits : fixed k n ≡ fixed j m ++ written
  pub text : l ≡ sets l₀ (at + j) written
  pub few : m < 10 ^ j

pub behind_start : (l : List ℕ) (at k n : ℕ) → n < 10 ^ k → Behind l at k n l n k
behind_start l at k n h = record { written = []; digits = sym (append-nil (fixed k n)); text = refl; few = h }

pub behind_more : {l₀ l l' : List ℕ} {at k n m j : ℕ} → Behind l₀ at k n l m j → 0 < j → l' ≡ set l (at + (j - 1)) (48 + m % 10) → Behind l₀ at k n l' (m / 10) (j - 1)
behind_more {l₀} {l} {l'} {at} {k} {n} {m} {j} b h e =
    let i = j - 1 in
    let s : j ≡ suc i = omega arith in
    let d = 48 + m % 10 in
    let w = b.written in
    let f : m < 10 ^ suc i = subst (λ (x : ℕ). m < 10 ^ x) s b.few in
    let t : at + j ≡ suc (at + i) = omega arith in
    let g : m < 10 ^ i * 10 = lt_of_lt_of_le f (le_of_eq (pow-suc 10 i)) in
    record {
      written = d ∷ w;
      digits = b.digits ∙ ap (λ (x : ℕ). fixed x m ++ w) s ∙ ap (λ (x : List ℕ). x ++ w) (fixed_last i m f) ∙ append_assoc (fixed i (m / 10)) (d ∷ []) w;
      text = e ∙ ap (λ (x : List ℕ). set x (at + i) d) (b.text ∙ ap (λ (x : ℕ). sets l₀ x w) t) ∙ set_before l₀ (at + i) (suc (at + i)) d w (omega arith);
      few = omega arith;
    }

pub behind_done : {l₀ l : List ℕ} {at k n m j : ℕ} → Behind l₀ at k n l m j → j ≤ 0 → Printed l₀ at (fixed k n) l (at + k)
behind_done {l₀} {l} {at} {k} {n} {m} {j} b h =
    let z : j ≡ 0 = omega arith in
    let w = b.written in
    record {
      text = b.text ∙ ap (λ (x : ℕ). sets l₀ (at + x) w) z ∙ ap (λ (x : ℕ). sets l₀ x w) (add-zero at) ∙ ap (sets l₀ at) (sym (b.digits ∙ ap (λ (x : ℕ). fixed x m ++ w) z));
      next = ap (λ (x : ℕ). at + x) (sym (length_fixed k n));
    }

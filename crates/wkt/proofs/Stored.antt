-- Coordinates and lengths in lent slices: stored one ring after the other, and cut to the room there is.
-- Assumes nothing.
use Rattle.std.proofs.Common.{◌≡◌, ℕ, zero, suc, ◌+◌, ◌-◌, ◌*◌, ◌<◌, ◌≤◌, Bool, true, false, cond, leb, Result, Err, List, [], ◌∷◌, ◌++◌, length, get_or, take, drop, set, replicate, sym, refl, ap, ◌∙◌, ⊎_elim, append_assoc, append-nil, arith, length-append, drop_of_length-le, length-take, take_all, leb-true}
use mathlib.Core.Bool.{and-eq-true_iff}
use lib.Seq.{sets, length-sets, take-append_seam}
use lib.Ieee.{Float}
use Rattle.lists.specs.Lists.{sum_over}
use Rattle.num.specs.Ops.{zero_f}
use Rattle.lists.specs.Parts.{padded}
use Rattle.lists.proofs.Cases.{lt_or_le}
use Rattle.lists.proofs.Stores.{sets_append, sets_front}
use Rattle.wkt.specs.Limits.{max_polygons, max_points}
use Rattle.wkt.specs.Parse.{Parse, got, wrong}
use Rattle.wkt.specs.Grammar.{Point, point, Text, scene, post}
use Rattle.wkt.specs.declared.Input.{Input}
use Rattle.wkt.specs.Answer.{text_in, Says, coords, all_coords, lengths, total, fitting, input_at, input_of, rings_of, held}
use Rattle.refusal.specs.declared.Refusal.{Refusal}
use Rattle.refusal.specs.declared.Refusal.TheVariants.{TooMany}
use Rattle.wkt.specs.Cursor.{polygons_in, points_in, StoredText}

-- ---- coordinates
coords_append : (qs ps : List Point) → coords (qs ++ ps) ≡ coords qs ++ coords ps
coords_append [] ps = refl
coords_append (point x y ∷ qs) ps = ap (λ (l : List Float). x ∷ y ∷ l) (coords_append qs ps)

pub length_coords : (ps : List Point) → length (coords ps) ≡ 2 * length ps
length_coords [] = refl
length_coords (point x y ∷ ps) = omega (arith, length_coords ps)

pub length_all_coords : (rs : List (List Point)) → length (all_coords rs) ≡ 2 * total rs
length_all_coords [] = refl
length_all_coords (ps ∷ rs) = omega (arith, length-append (coords ps) (all_coords rs), length_coords ps, length_all_coords rs)

pub length_lengths : (rs : List (List Point)) → length (lengths rs) ≡ length rs
length_lengths [] = refl
length_lengths (ps ∷ rs) = ap suc (length_lengths rs)

pub lengths_at : (rs : List (List Point)) (k : ℕ) → get_or (lengths rs) k 0 ≡ length (get_or rs k [])
lengths_at [] k = refl
lengths_at (ps ∷ rs) zero = refl
lengths_at (ps ∷ rs) (suc k) = lengths_at rs k

-- the points are as many as the lengths say
pub total_sum : (rs : List (List Point)) → total rs ≡ sum_over (λ n. n) (lengths rs)
total_sum [] = refl
total_sum (ps ∷ rs) = ap (λ (n : ℕ). length ps + n) (total_sum rs)

-- ---- one more point, one more ring
pub point_more : (l : List Float) (k : ℕ) (qs : List Point) (n : ℕ) (x y : Float) → length qs ≡ n → sets (sets l (2 * k) (coords qs)) (2 * (k + n)) (x ∷ y ∷ []) ≡ sets l (2 * k) (coords (qs ++ (point x y ∷ [])))
point_more l k qs n x y e =
    let a : 2 * k + length (coords qs) ≡ 2 * (k + n) = omega (arith, length_coords qs) in
    sym (ap (sets l (2 * k)) (coords_append qs (point x y ∷ [])) ∙ sets_append l (2 * k) (coords qs) (x ∷ y ∷ []) ∙ ap (λ (i : ℕ). sets (sets l (2 * k) (coords qs)) i (x ∷ y ∷ [])) a)

all_append : (qs : List (List Point)) (ps : List Point) → all_coords (qs ++ (ps ∷ [])) ≡ all_coords qs ++ coords ps
all_append [] ps = append-nil (coords ps)
all_append (q ∷ qs) ps = ap (λ (l : List Float). coords q ++ l) (all_append qs ps) ∙ sym (append_assoc (coords q) (all_coords qs) (coords ps))

pub ring_more : (l : List Float) (qs : List (List Point)) (k : ℕ) (ps : List Point) → total qs ≡ k → sets (sets l 0 (all_coords qs)) (2 * k) (coords ps) ≡ sets l 0 (all_coords (qs ++ (ps ∷ [])))
ring_more l qs k ps e =
    let a : 0 + length (all_coords qs) ≡ 2 * k = omega (arith, length_all_coords qs) in
    sym (ap (sets l 0) (all_append qs ps) ∙ sets_append l 0 (all_coords qs) (coords ps) ∙ ap (λ (i : ℕ). sets (sets l 0 (all_coords qs)) i (coords ps)) a)

pub total_more : (qs : List (List Point)) (ps : List Point) → total (qs ++ (ps ∷ [])) ≡ total qs + length ps
total_more [] ps = omega arith
total_more (q ∷ qs) ps = omega (arith, total_more qs ps)

lengths_append : (qs : List (List Point)) (ps : List Point) → lengths (qs ++ (ps ∷ [])) ≡ lengths qs ++ (length ps ∷ [])
lengths_append [] ps = refl
lengths_append (q ∷ qs) ps = ap (λ (l : List ℕ). length q ∷ l) (lengths_append qs ps)

pub length_more : (l : List ℕ) (qs : List (List Point)) (m : ℕ) (ps : List Point) → length qs ≡ m → set (sets l 0 (lengths qs)) m (length ps) ≡ sets l 0 (lengths (qs ++ (ps ∷ [])))
length_more l qs m ps e =
    let a : 0 + length (lengths qs) ≡ m = omega (arith, length_lengths qs) in
    sym (ap (sets l 0) (lengths_append qs ps) ∙ sets_append l 0 (lengths qs) (length ps ∷ []) ∙ ap (λ (i : ℕ). set (sets l 0 (lengths qs)) i (length ps)) a)

-- ---- stored from 0 on and cleared behind: held
module _ {A : Type 0} (z : A) where
  front_held : (l xs : List A) → take (length xs) (take (length l) xs ++ drop (length xs) l) ≡ take (length l) xs
  front_held l xs = ⊎_elim short long (lt_or_le (length l) (length xs))
    where
      short : length l < length xs → take (length xs) (take (length l) xs ++ drop (length xs) l) ≡ take (length l) xs
      short h =
          let e : length l ≤ length xs = omega arith in
          let k : length (take (length l) xs) ≤ length xs = simp length-take (omega arith) in
          rw (drop_of_length-le l e, append-nil) (take_all (length xs) (take (length l) xs) k)

      long : length xs ≤ length l → take (length xs) (take (length l) xs ++ drop (length xs) l) ≡ take (length l) xs
      long h = rw (take_all (length l) xs h) (take-append_seam xs (drop (length xs) l))

  cut_length : (n : ℕ) (xs : List A) → n - length (take n xs) ≡ n - length xs
  cut_length n xs = simp length-take (omega arith)

  pub held_is : (l xs : List A) (k : List A) (m n : ℕ) → k ≡ sets l 0 xs → m ≡ length xs → n ≡ length l → take m k ++ replicate (length k - m) z ≡ held z n xs
  held_is l xs k m n e f g =
      let a : length (sets l 0 xs) ≡ length l = length-sets l 0 xs in
      rw (e, f, g, a, sets_front l xs, front_held l xs, cut_length (length l) xs)

  pub held_none : (k : List A) (m n : ℕ) → m ≡ 0 → n ≡ length k → take m k ++ replicate (length k - m) z ≡ held z n []
  held_none k m n f g = rw (f, g, lib.Seq.take-nil {A = A} (length k))

  -- where all of it has room
  pub held_all : (n : ℕ) (xs : List A) → length xs ≤ n → held z n xs ≡ padded z n xs
  held_all n xs h = ap (padded z n) (take_all n xs h)

-- ---- a text that is not refused is within the limits
pub record Limited (rs : List (List Point)) : Type 0 where
  pub polygons : length rs ≤ max_polygons
  pub points : total rs ≤ max_points

limited_by : (rs : List (List Point)) (b : Bool) → fitting rs ≡ b → Limited (cond b rs [])
limited_by rs true e =
    let p = (and-eq-true_iff (leb (length rs) max_polygons) (leb (total rs) max_points)).0 e in
    record { polygons = leb-true _ _ p.0; points = leb-true _ _ p.1 }
limited_by rs false e = record { polygons = omega arith; points = omega arith }

pub limited : (t : Parse Text) → Limited (rings_of t)
limited (got (scene h rs) u) = limited_by rs (fitting rs) refl
limited wrong = record { polygons = omega arith; points = omega arith }

-- ---- the counts of an answer are those of its rings, and so are the cells
counts_by : (x y m : Float) (rs : List (List Point)) (b : Bool) → (polygons_in (cond b (input_at x y m (length rs) (total rs)) (Err TooMany)) ≡ length (cond b rs [])) × (points_in (cond b (input_at x y m (length rs) (total rs)) (Err TooMany)) ≡ total (cond b rs []))
counts_by x y m rs true = (refl, refl)
counts_by x y m rs false = (refl, refl)

pub counts : (t : Parse Text) → (polygons_in (input_of t) ≡ length (rings_of t)) × (points_in (input_of t) ≡ total (rings_of t))
counts (got (scene (post x y m) rs) u) = counts_by x y m rs (fitting rs)
counts wrong = (refl, refl)

module _ (pts : List Float) (lens : List ℕ) (pts' : List Float) (lens' : List ℕ) where
  cells_by : (rs : List (List Point)) (b : Bool) (p l : ℕ) → p ≡ 2 * total (cond b rs []) → l ≡ length (cond b rs []) → pts' ≡ sets pts 0 (all_coords rs) → lens' ≡ sets lens 0 (lengths rs)
      → (take p pts' ++ replicate (length pts' - p) zero_f ≡ held zero_f (length pts) (all_coords (cond b rs [])))
      × (take l lens' ++ replicate (length lens' - l) 0 ≡ held 0 (length lens) (lengths (cond b rs [])))
  cells_by rs true p l e f g h = (
    held_is zero_f pts (all_coords rs) pts' p (length pts) g (e ∙ sym (length_all_coords rs)) refl,
    held_is {A = ℕ} 0 lens (lengths rs) lens' l (length lens) h (f ∙ sym (length_lengths rs)) refl,
  )
  cells_by rs false p l e f g h = (
    held_none zero_f pts' p (length pts) e (sym (ap length g ∙ length-sets pts 0 (all_coords rs))),
    held_none {A = ℕ} 0 lens' l (length lens) f (sym (ap length h ∙ length-sets lens 0 (lengths rs))),
  )

  pub cells : (t : Parse Text) (p l : ℕ) → p ≡ 2 * total (rings_of t) → l ≡ length (rings_of t) → length pts ≡ length pts' → length lens ≡ length lens' → StoredText t pts lens pts' lens'
      → (take p pts' ++ replicate (length pts' - p) zero_f ≡ held zero_f (length pts) (all_coords (rings_of t)))
      × (take l lens' ++ replicate (length lens' - l) 0 ≡ held 0 (length lens) (lengths (rings_of t)))
  cells (got (scene h rs) u) p l e f g k s = cells_by rs (fitting rs) p l e f s.0 s.1
  cells wrong p l e f g k s = (held_none zero_f pts' p (length pts) e g, held_none {A = ℕ} 0 lens' l (length lens) f k)

-- ---- lent room for 64 lengths and 512 points holds all of a text that is not refused
pub all_stored : (t : List ℕ) (p l : ℕ) (r : Result Input Refusal) (pts : List Float) (lens : List ℕ) → 2 * max_points ≤ p → max_polygons ≤ l → Says t p l r pts lens
    → (pts ≡ padded zero_f p (all_coords (rings_of (text_in t)))) × (lens ≡ padded 0 l (lengths (rings_of (text_in t))))
all_stored t p l r pts lens h g s =
    let rs = rings_of (text_in t) in
    let d = limited (text_in t) in
    let a = d.polygons in
    let b = d.points in (
      s.points ∙ held_all zero_f p (all_coords rs) (omega (arith, length_all_coords rs)),
      s.lengths_in ∙ held_all {A = ℕ} 0 l (lengths rs) (omega (arith, length_lengths rs)),
    )

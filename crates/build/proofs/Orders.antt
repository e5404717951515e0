-- The points of a polygon as it is stored, point by point: given, turned round, and in order. Assumes nothing.
use mathlib.Core.Path.{◌≡◌, refl, sym, ap, ◌∙◌}
use mathlib.Core.Logic.{⊎_elim}
use mathlib.Core.Bool.{Bool, true, false}
use mathlib.Core.List.{List, [], ◌∷◌, ◌++◌, map}
use Prim.Native.Nat.{ℕ, zero, suc, ◌+◌, ◌-◌, ◌*◌, ◌%◌, ◌≤◌, ◌<◌}
use native.Mathlib.Nat.{le_antisymm, mod-lt}
use native.Mathlib.Numerals.{add-one}
use native.Mathlib.Omega.{arith}
use lib.ListN.{length, get_or, length-append, length-take, length-drop, length-map, get_or-append, get_or-map}
use lib.Seq.{get_or-append-add}
use lib.Ieee.{Float, nan, add}
use borrow.Author.Tests.{lt-ltb, le-ltb}
use Rattle.lists.specs.Lists.{joined}
use Rattle.lists.proofs.Cases.{lt_or_le}
use Rattle.lists.proofs.Sums.{sum_to_step}
use Rattle.lists.proofs.Parts.{get_d_part}
use Rattle.num.specs.Ops.{◌⊕◌, ◌⊗◌}
use Rattle.geom.specs.declared.Vec2.{Vec2}
use Rattle.geom.specs.declared.Aabb.{Aabb}
use Rattle.geom.specs.Constants.{half}
use Rattle.geom.specs.Vec.{cross_of}
use Rattle.geom.specs.Box.{corners, corner_of, empty_box, box_up_to, from_points_of}
use Rattle.geom.specs.Ring.{area_up_to, signed_area_of}
use Rattle.extent.specs.Boxes.{polygon_box_of}
use Rattle.site.specs.Domain.{load_of, load_point_of}
use Rattle.site.specs.Tables.{point_at}
use Rattle.build.specs.Stored.{len_in, first_in, given_at, turned, is_reversed, ordered_at, stored_at, stored_of, stored_box}
use Rattle.build.specs.Refusals.{Held, Counted}

-- ---- loaded numbers
load_nan : load_of nan ≡ nan
unfolding load_of add
load_nan = refl

pub loaded_at : (given : List Float) (i : ℕ) → get_or (map load_of given) i nan ≡ load_of (get_or given i nan)
loaded_at given i = ap (λ (d : Float). get_or (map load_of given) i d) (sym load_nan) ∙ get_or-map load_of given i nan

-- ---- the points turned round
pub length_turned : (l : List Float) → length (turned l) ≡ length l
length_turned [] = refl
length_turned (x ∷ []) = refl
length_turned (x ∷ y ∷ l) = omega (arith, length-append (turned l) (x ∷ y ∷ []), length_turned l)

same_corner : (k l : List Float) (i j : ℕ) → get_or k (2 * i) nan ≡ get_or l (2 * j) nan → get_or k (2 * i + 1) nan ≡ get_or l (2 * j + 1) nan → corner_of k i ≡ corner_of l j
same_corner k l i j p q = rw (p, q)

pub turned_corner : (l : List Float) (n i : ℕ) → length l ≡ 2 * n → i < n → corner_of (turned l) i ≡ corner_of l (n - 1 - i)
turned_corner [] n i e h = absurd (omega arith)
turned_corner (x ∷ []) n i e h = absurd (omega arith)
turned_corner (x ∷ y ∷ l) n i e h = ⊎_elim (λ b. below b (turned_corner l (n - 1) i even b)) last (lt_or_le i (n - 1))
  where
    even : length l ≡ 2 * (n - 1)
    even = omega arith

    below : i < n - 1 → corner_of (turned l) i ≡ corner_of l (n - 1 - 1 - i) → corner_of (turned l ++ (x ∷ y ∷ [])) i ≡ corner_of (x ∷ y ∷ l) (n - 1 - i)
    below b on =
        let z : length (turned l) ≡ 2 * (n - 1) = length_turned l ∙ even in
        let p : 2 * (n - 1 - i) ≡ suc (suc (2 * (n - 1 - 1 - i))) = omega arith in
        let q : 2 * (n - 1 - i) + 1 ≡ suc (suc (2 * (n - 1 - 1 - i) + 1)) = omega arith in
        same_corner (turned l ++ (x ∷ y ∷ [])) (turned l) i i (get_or-append (turned l) (x ∷ y ∷ []) nan (2 * i) (omega arith)) (get_or-append (turned l) (x ∷ y ∷ []) nan (2 * i + 1) (omega arith))
        ∙ on
        ∙ sym (same_corner (x ∷ y ∷ l) l (n - 1 - i) (n - 1 - 1 - i) (ap (λ (k : ℕ). get_or (x ∷ y ∷ l) k nan) p) (ap (λ (k : ℕ). get_or (x ∷ y ∷ l) k nan) q))

    last : n - 1 ≤ i → corner_of (turned l ++ (x ∷ y ∷ [])) i ≡ corner_of (x ∷ y ∷ l) (n - 1 - i)
    last b =
        let z : length (turned l) ≡ 2 * (n - 1) = length_turned l ∙ even in
        let p : 2 * i ≡ length (turned l) + 0 = omega arith in
        let q : 2 * i + 1 ≡ length (turned l) + 1 = omega arith in
        let o : n - 1 - i ≡ 0 = omega arith in
        same_corner (turned l ++ (x ∷ y ∷ [])) (x ∷ y ∷ l) i 0
        (ap (λ (k : ℕ). get_or (turned l ++ (x ∷ y ∷ [])) k nan) p ∙ get_or-append-add (turned l) (x ∷ y ∷ []) 0 nan)
        (ap (λ (k : ℕ). get_or (turned l ++ (x ∷ y ∷ [])) k nan) q ∙ get_or-append-add (turned l) (x ∷ y ∷ []) 1 nan)
        ∙ ap (corner_of (x ∷ y ∷ l)) (sym o)

module _ (given : List Float) (first len : ℕ) (h : Held given first len) where
  -- ---- as given
  pub length_given : length (given_at given first len) ≡ 2 * len
  unfolding given_at
  length_given = simp (length-take, length-drop, length-map) (omega arith)

  pub given_at_lem : (i : ℕ) → i < 2 * len → get_or (given_at given first len) i nan ≡ load_of (get_or given (2 * first + i) nan)
  unfolding given_at
  given_at_lem i l = get_d_part (2 * first) (2 * (first + len)) (map load_of given) i nan (omega arith) ∙ loaded_at given (2 * first + i)

  pub given_corner : (i : ℕ) → i < len → corner_of (given_at given first len) i ≡ load_point_of (point_at given (first + i))
  unfolding load_point_of
  given_corner i l =
      let p : 2 * first + 2 * i ≡ 2 * (first + i) = omega arith in
      let q : 2 * first + (2 * i + 1) ≡ 2 * (first + i) + 1 = omega arith in
      rw (given_at_lem (2 * i) (omega arith), given_at_lem (2 * i + 1) (omega arith), p, q)

  -- ---- in order
  pub length_ordered : (r : Bool) → length (ordered_at r given first len) ≡ 2 * len
  unfolding ordered_at
  length_ordered true = length_turned (given_at given first len) ∙ length_given
  length_ordered false = length_given

  pub ordered_given : (i : ℕ) → i < len → corner_of (ordered_at false given first len) i ≡ load_point_of (point_at given (first + i))
  unfolding ordered_at
  ordered_given i l = given_corner i l

  pub ordered_turned : (i : ℕ) → i < len → corner_of (ordered_at true given first len) i ≡ load_point_of (point_at given (first + (len - 1 - i)))
  unfolding ordered_at
  ordered_turned i l = turned_corner (given_at given first len) len i length_given l ∙ given_corner (len - 1 - i) (omega arith)

  pub length_stored : length (stored_at given first len) ≡ 2 * len
  unfolding stored_at
  length_stored = length_ordered (is_reversed given first len)

  -- ---- the steps of the loops over a polygon's points
  -- the area: one edge more, and all of them
  corners_given : corners (given_at given first len) ≡ len
  corners_given = omega (arith, length_given)

  pub area_step : (i : ℕ) (s : Float) (a b : Vec2) → i < len → s ≡ area_up_to (given_at given first len) i → a ≡ load_point_of (point_at given (first + i))
      → b ≡ load_point_of (point_at given (first + (i + 1) % len)) → s ⊕ cross_of a b ≡ area_up_to (given_at given first len) (i + 1)
  area_step i s a b l p q r =
      rw (p, q, r, ← given_corner i l, ← given_corner ((i + 1) % len) (mod-lt (i + 1) (omega arith))) (sym (area_up_to_next i))
    where
      area_up_to_next : (i : ℕ) → area_up_to (given_at given first len) (i + 1) ≡ area_up_to (given_at given first len) i ⊕ cross_of (corner_of (given_at given first len) i) (corner_of (given_at given first len) ((i + 1) % len))
      area_up_to_next i =
          unfold area_up_to in
          ap (area_up_to (given_at given first len)) (add-one i)
          ∙ ap (λ (n : ℕ). area_up_to (given_at given first len) i ⊕ cross_of (corner_of (given_at given first len) i) (corner_of (given_at given first len) ((i + 1) % n))) corners_given

  pub area_end : (i : ℕ) (s : Float) → i ≤ len → len ≤ i → s ≡ area_up_to (given_at given first len) i → half ⊗ s ≡ signed_area_of (given_at given first len)
  unfolding signed_area_of
  area_end i s l m p = ap (λ (t : Float). half ⊗ t) (p ∙ ap (area_up_to (given_at given first len)) (le_antisymm l m ∙ sym corners_given))

  -- the box: all points taken
  pub corners_ordered : (r : Bool) → corners (ordered_at r given first len) ≡ len
  corners_ordered r = omega (arith, length_ordered r)

  pub box_end : (r : Bool) (i : ℕ) (b : Aabb) → i ≤ len → len ≤ i → b ≡ box_up_to (ordered_at r given first len) i → b ≡ from_points_of (ordered_at r given first len)
  unfolding from_points_of
  box_end r i b l m p = p ∙ ap (box_up_to (ordered_at r given first len)) (le_antisymm l m ∙ sym (corners_ordered r))

-- ---- where the polygons stand
pub held : (given : List Float) (lens : List ℕ) (k : ℕ) → Counted given lens → k < length lens → Held given (first_in lens k) (len_in lens k)
held given lens k c h = omega (arith, sum_to_step (len_in lens) k (length lens) h, c.numbers_add_up)

pub points_length : (given : List Float) (lens : List ℕ) (k : ℕ) → Counted given lens → k ≤ length lens → length (joined (stored_of given lens) k) ≡ 2 * first_in lens k
points_length given lens zero c h = refl
points_length given lens (suc k) c h =
    omega (arith, length-append (joined (stored_of given lens) k) (stored_of given lens k), points_length given lens k c (omega arith), one)
  where
    one : length (stored_of given lens k) ≡ 2 * len_in lens k
    one = unfold stored_of in length_stored given (first_in lens k) (len_in lens k) (held given lens k c (omega arith))

-- ---- the box of a polygon as stored
module _ (given : List Float) (first len : ℕ) (h : Held given first len) where
  corners_stored : corners (stored_at given first len) ≡ len
  unfolding stored_at
  corners_stored = corners_ordered given first len h (is_reversed given first len)

  pub box_few : len < 3 → empty_box ≡ polygon_box_of (stored_at given first len)
  unfolding polygon_box_of
  box_few l = rw (corners_stored, lt-ltb len 3 l)

  pub box_many : (b : Aabb) (r : Bool) → 3 ≤ len → r ≡ is_reversed given first len → b ≡ from_points_of (ordered_at r given first len) → b ≡ polygon_box_of (stored_at given first len)
  unfolding polygon_box_of stored_at
  box_many b r l e p = rw (corners_ordered given first len h (is_reversed given first len), le-ltb len 3 l, p, e)

-- ---- the polygon k, as the loops over the polygons meet it
module _ (given : List Float) (lens : List ℕ) (k first len : ℕ) (e : first ≡ first_in lens k) (f : len ≡ len_in lens k) where
  pub stored_is : (r : Bool) → r ≡ is_reversed given first len → ordered_at r given first len ≡ stored_of given lens k
  unfolding stored_of stored_at
  stored_is r p = rw (p, e, f)

  pub box_is : (b : Aabb) → b ≡ polygon_box_of (stored_at given first len) → b ≡ stored_box given lens k
  unfolding stored_box stored_of
  box_is b p = rw (p, e, f)

  pub held_is : Counted given lens → k < length lens → Held given first len
  held_is c h = omega (arith, held given lens k c h)

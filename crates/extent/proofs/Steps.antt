-- One box more: what it does to the bounds and to the sides. Assumes nothing.
use Rattle.std.proofs.Common.{◌≡◌, ℕ, ◌+◌, ◌≤◌, Bool, true, false, cond, not, List, [], ◌∷◌, ◌++◌, length, refl, ap, ◌∙◌, add-one, arith, length-append}
use mathlib.Core.List.{foldl, foldl-append}
use lib.Ieee.{Float}
use Rattle.lists.specs.Lists.{cons_if, listed}
use Rattle.lists.proofs.Counting.{filter_append, length_filter_le}
use Rattle.num.specs.Ops.{◌⊕◌, zero_f}
use Rattle.geom.specs.declared.Aabb.{Aabb}
use Rattle.geom.specs.Vec.{vec, origin}
use Rattle.geom.specs.Box.{box, union_of, is_empty_of}
use Rattle.grid.specs.Boxes.{box_at}
use Rattle.extent.specs.declared.Sides.{Sides}
use Rattle.extent.specs.Extent.{non_empty, bounds_of, join_box_of, side_of, sides_of, add_side_of}

-- a step over one box more
step : {B : Type 0} (f : B → Aabb → B) (s : B) (bs : List Aabb) (b : Aabb) → foldl f s (non_empty (bs ++ (b ∷ []))) ≡ cond (is_empty_of b) (foldl f s (non_empty bs)) (f (foldl f s (non_empty bs)) b)
step {B} f s bs b = ap (foldl f s) (filter_append (λ d. not (is_empty_of d)) bs (b ∷ [])) ∙ foldl-append f s (non_empty bs) (non_empty (b ∷ [])) ∙ go (is_empty_of b)
  where
    go : (t : Bool) → foldl f (foldl f s (non_empty bs)) (cons_if (not t) b []) ≡ cond t (foldl f s (non_empty bs)) (f (foldl f s (non_empty bs)) b)
    go true = refl
    go false = refl

-- ---- the bounds
pub bounds_none : (w h : Float) → box origin (vec w h) ≡ bounds_of w h []
unfolding bounds_of
bounds_none w h = refl

pub bounds_next : (w h : Float) (bs : List Aabb) (b : Aabb) → join_box_of (bounds_of w h bs) b ≡ bounds_of w h (bs ++ (b ∷ []))
unfolding bounds_of join_box_of
bounds_next w h bs b = simp (step union_of (box origin (vec w h)) bs b)

-- ---- the sides
pub sides_none : record { sum = zero_f; count = 0 } ≡ sides_of []
unfolding sides_of
sides_none = refl

pub sides_next : (bs : List Aabb) (b : Aabb) → add_side_of (sides_of bs) b ≡ sides_of (bs ++ (b ∷ []))
unfolding sides_of add_side_of
sides_next bs b =
    go (is_empty_of b) (foldl (λ (s : Float) (d : Aabb). s ⊕ side_of d) zero_f (non_empty bs)) (foldl (λ (s : Float) (d : Aabb). s ⊕ side_of d) zero_f (non_empty (bs ++ (b ∷ []))))
    (length (non_empty bs)) (length (non_empty (bs ++ (b ∷ []))))
    (step (λ (s : Float) (d : Aabb). s ⊕ side_of d) zero_f bs b) (count bs b)
  where
    count : (bs : List Aabb) (b : Aabb) → length (non_empty (bs ++ (b ∷ []))) ≡ cond (is_empty_of b) (length (non_empty bs)) (length (non_empty bs) + 1)
    count bs b = ap length (filter_append (λ d. not (is_empty_of d)) bs (b ∷ [])) ∙ length-append (non_empty bs) (non_empty (b ∷ [])) ∙ more (is_empty_of b) (length (non_empty bs))
      where
        more : (t : Bool) (n : ℕ) → n + length (cons_if (not t) b []) ≡ cond t n (n + 1)
        more true n = omega arith
        more false n = refl

    go : (t : Bool) (x x' : Float) (n n' : ℕ) → x' ≡ cond t x (x ⊕ side_of b) → n' ≡ cond t n (n + 1)
        → cond {A = Sides} t (record { sum = x; count = n }) (record { sum = x ⊕ side_of b; count = n + 1 }) ≡ record { sum = x'; count = n' }
    go true x x' n n' p q = cc
    go false x x' n n' p q = cc

pub sides_few : (bs : List Aabb) → (sides_of bs).count ≤ length bs
unfolding sides_of
sides_few bs = length_filter_le (λ b. not (is_empty_of b)) bs

-- ---- as the loop has them
pub bounds_step : (w h : Float) (table : List Float) (i : ℕ) → join_box_of (bounds_of w h (listed (box_at table) i)) (box_at table i) ≡ bounds_of w h (listed (box_at table) (i + 1))
bounds_step w h table i = rw add-one (bounds_next w h (listed (box_at table) i) (box_at table i))

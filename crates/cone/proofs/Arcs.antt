-- Points as numbers, and an arc that is written point by point. Assumes nothing.
use mathlib.Core.Path.{◌≡◌, refl, sym, ap, ◌∙◌}
use mathlib.Core.Bool.{Bool, true, false, cond}
use mathlib.Core.List.{List, [], ◌∷◌, ◌++◌}
use Prim.Native.Nat.{ℕ, ◌+◌, ◌*◌}
use native.Mathlib.Numerals.{add-one}
use native.Mathlib.Omega.{arith}
use lib.ListN.{length}
use lib.Seq.{sets}
use lib.Ieee.{Float}
use Rattle.lists.specs.Lists.{listed}
use Rattle.lists.proofs.Joined.{length_listed}
use Rattle.lists.proofs.Stores.{sets_append}
use Rattle.geom.specs.declared.Vec2.{Vec2}
use Rattle.cone.specs.declared.ViewCone.{ViewCone}
use Rattle.cone.specs.declared.View.{View}
use Rattle.cone.specs.Cone.{is_full_of, view_of, reach_of, steps_of, arc_point_of, arc_of, outline_of, numbers_of, Drawn}

pub numbers_append : (l m : List Vec2) → numbers_of (l ++ m) ≡ numbers_of l ++ numbers_of m
numbers_append [] m = refl
numbers_append (p ∷ l) m = ap (λ (q : List Float). p.x ∷ p.y ∷ q) (numbers_append l m)

pub length_numbers : (l : List Vec2) → length (numbers_of l) ≡ 2 * length l
length_numbers [] = refl
length_numbers (p ∷ l) = omega (arith, length_numbers l)

-- the next point
pub point_more : (f : ℕ → Vec2) (at k : ℕ) (old l m : List Float) (p : Vec2) → l ≡ sets old (2 * at) (numbers_of (listed f k)) → p ≡ f k
    → m ≡ sets l (2 * (at + k)) (p.x ∷ p.y ∷ []) → m ≡ sets old (2 * at) (numbers_of (listed f (k + 1)))
point_more f at k old l m p e g h =
    let n : 2 * (at + k) ≡ 2 * at + length (numbers_of (listed f k)) = omega (arith, length_numbers (listed f k), length_listed f k) in
    let s : sets old (2 * at) (numbers_of (listed f (k + 1))) ≡ sets old (2 * at) (numbers_of (listed f k) ++ ((f k).x ∷ (f k).y ∷ []))
    = rw (add-one, numbers_append) in
    rw (s, sets_append, h, n, e, g)

-- ---- the cone's own outline, as the code comes by it

module _ (c : ViewCone) (tolerance : Float) where
  full_outline : is_full_of c ≡ true → outline_of c tolerance ≡ arc_of (view_of c) (reach_of c) (steps_of c tolerance) (steps_of c tolerance)
  unfolding outline_of
  full_outline t =
      ap (λ (b : Bool). cond b (arc_of (view_of c) (reach_of c) (steps_of c tolerance) (steps_of c tolerance)) (c.origin ∷ arc_of (view_of c) (reach_of c) (steps_of c tolerance) (steps_of c tolerance + 1))) t

  sector_outline : is_full_of c ≡ false → outline_of c tolerance ≡ c.origin ∷ arc_of (view_of c) (reach_of c) (steps_of c tolerance) (steps_of c tolerance + 1)
  unfolding outline_of
  sector_outline t =
      ap (λ (b : Bool). cond b (arc_of (view_of c) (reach_of c) (steps_of c tolerance) (steps_of c tolerance)) (c.origin ∷ arc_of (view_of c) (reach_of c) (steps_of c tolerance) (steps_of c tolerance + 1))) t

  module _ (v : View) (r : Float) (k n : ℕ) (v_is : v ≡ view_of c) (r_is : r ≡ reach_of c) (k_is : k ≡ steps_of c tolerance) (old new : List Float) where
    pub circle_drawn : v.full ≡ true → new ≡ sets old 0 (numbers_of (arc_of v r k k)) → n ≡ k → Drawn c tolerance old new n
    circle_drawn t h m =
        let e = full_outline (ap (λ (w : View). w.full) (sym v_is) ∙ t) in
        record {
          count = m ∙ k_is ∙ sym (ap length e ∙ length_listed (arc_point_of (view_of c) (reach_of c) (steps_of c tolerance)) (steps_of c tolerance));
          points = rw (h, e, v_is, r_is, k_is);
        }

    pub sector_drawn : (mid : List Float) → v.full ≡ false → mid ≡ sets old 0 (v.o.x ∷ v.o.y ∷ []) → new ≡ sets mid 2 (numbers_of (arc_of v r k (k + 1))) → n ≡ k + 2 → Drawn c tolerance old new n
    sector_drawn mid t g h m =
        let e = sector_outline (ap (λ (w : View). w.full) (sym v_is) ∙ t) in
        let a : length (arc_of (view_of c) (reach_of c) (steps_of c tolerance) (steps_of c tolerance + 1)) ≡ steps_of c tolerance + 1
        = length_listed (arc_point_of (view_of c) (reach_of c) (steps_of c tolerance)) (steps_of c tolerance + 1) in
        record {
          count = omega (arith, m, k_is, ap length e, a);
          points = rw (h, g, e, v_is, r_is, k_is);
        }

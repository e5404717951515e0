-- A FRONT EDGE HAS A NEGATIVE CROSS PRODUCT: with points and post in the domain no cross product is NaN, so one that is not zero or more is below zero; and the
-- points that the scan takes for an edge are the edge's ends. Document 01: "Front edges have a negative computed cross product". Assumes nothing.
use mathlib.Core.Path.{◌≡◌, refl, sym, ap, ◌∙◌, subst}
use mathlib.Core.Logic.{⊎_elim}
use mathlib.Core.Bool.{Bool, true, false, not}
use Prim.Native.Nat.{ℕ, ◌+◌, ◌%◌, ◌<◌, min}
use native.Mathlib.Nat.{mod_self, mod-eq_of_lt}
use native.Mathlib.Omega.{arith}
use borrow.Author.Tests.{eq-eqb, ne_eqb}
use lib.Dec.{T, lit≤}
use lib.Ieee.{lt, le}
use Rattle.num.specs.Ops.{zero_f}
use Rattle.num.proofs.FloatOrder.{not_lt}
use Rattle.lists.proofs.AllTo.{both}
use Rattle.lists.proofs.Cases.{eq_or_ne}
use Rattle.bounds.specs.Domain.{in_domain}
use Rattle.bounds.specs.Within.{Within}
use Rattle.bounds.proofs.Within.{held, not_nan, value_within, sub_within, mul_within}
use Rattle.bounds.proofs.Domain.{zero_is, domain_within}
use Rattle.geom.specs.declared.Vec2.{Vec2}
use Rattle.geom.specs.Vec.{cross_of, sub_of}
use Rattle.site.specs.declared.Site.{Site}
use Rattle.site.specs.Tables.{Tables, first_of, len_of, edge_end_of}
use Rattle.site.specs.Domain.{point_in_domain}
use Rattle.site.specs.Soundness.{Sound}
use Rattle.fan.specs.Sides.{facing}

-- ---- the cross product is no NaN
within_x : (p : Vec2) → point_in_domain p ≡ true → Within 1000000 p.x
unfolding point_in_domain
within_x p h = domain_within p.x (both (in_domain p.x) (in_domain p.y) h).0

within_y : (p : Vec2) → point_in_domain p ≡ true → Within 1000000 p.y
unfolding point_in_domain
within_y p h = domain_within p.y (both (in_domain p.x) (in_domain p.y) h).1

module _ (o a b : Vec2) (O : point_in_domain o ≡ true) (A : point_in_domain a ≡ true) (B : point_in_domain b ≡ true) where
  facing_within : Within 8000000000000 (facing o a b)
  unfolding facing cross_of sub_of
  facing_within =
      let bx = sub_within 1000000 1000000 2000000 b.x a.x (lit≤ tt) (held tt) (within_x b B) (within_x a A) in
      let by = sub_within 1000000 1000000 2000000 b.y a.y (lit≤ tt) (held tt) (within_y b B) (within_y a A) in
      let ox = sub_within 1000000 1000000 2000000 o.x a.x (lit≤ tt) (held tt) (within_x o O) (within_x a A) in
      let oy = sub_within 1000000 1000000 2000000 o.y a.y (lit≤ tt) (held tt) (within_y o O) (within_y a A) in
      sub_within 4000000000000 4000000000000 8000000000000 _ _ (lit≤ tt) (held tt)
      (mul_within 2000000 2000000 4000000000000 _ _ (lit≤ tt) (held tt) bx oy) (mul_within 2000000 2000000 4000000000000 _ _ (lit≤ tt) (held tt) by ox)

  -- so it is negative where it is not zero or more
  pub faces_below : le zero_f (facing o a b) ≡ false → lt (facing o a b) zero_f ≡ true
  faces_below h = by (lt (facing o a b) zero_f) refl
    where
      no : T false → lt (facing o a b) zero_f ≡ true
      no t = absurd t

      by : (t : Bool) → lt (facing o a b) zero_f ≡ t → lt (facing o a b) zero_f ≡ true
      by true e = e
      by false e =
          let z : T (le zero_f (facing o a b)) =
          not_lt zero_f (facing o a b) (not_nan 0 zero_f (value_within 0 zero_f zero_is)) (not_nan 8000000000000 (facing o a b) facing_within) (subst (λ (t : Bool). T (not t)) (sym e) tt) in
          no (subst T h z)

-- ---- the end of an edge: the point after its own, or the first of the polygon after the last
module _ (site : Site) (t : Tables) (S : Sound site t) where
  pub edge_end : (k i : ℕ) → k < site.polygons → i < len_of t.polygons k
      → edge_end_of t.polygons t.owners (first_of t.polygons k + i) ≡ first_of t.polygons k + (i + 1) % len_of t.polygons k
  unfolding edge_end_of
  edge_end k i h l =
      rw (S.one_owner k i h l)
      (⊎_elim
      (λ e. let z : first_of t.polygons k + i + 1 ≡ first_of t.polygons k + len_of t.polygons k = omega arith in
      let m : (i + 1) % len_of t.polygons k ≡ 0 = ap (λ (x : ℕ). x % len_of t.polygons k) e ∙ mod_self (len_of t.polygons k) in
      rw (eq-eqb _ _ z, m) (plus_none (first_of t.polygons k)))
      (λ n. let m : (i + 1) % len_of t.polygons k ≡ i + 1 = mod-eq_of_lt (omega arith) in
      rw (ne_eqb (first_of t.polygons k + i + 1) (first_of t.polygons k + len_of t.polygons k) (λ e. n (omega arith)), m)
      (next (first_of t.polygons k) i (omega (arith, S.inside k h, S.few_points))))
      (eq_or_ne (i + 1) (len_of t.polygons k)))
    where
      plus_none : (a : ℕ) → a ≡ a + 0
      plus_none a = omega arith

      next : (a i : ℕ) → a + i < 65536 → min (a + i + 1) 4294967295 ≡ a + (i + 1)
      next a i h = omega arith

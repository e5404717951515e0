-- Two visitors that keep a relation between their states, and by it go on or stop alike, enter the same places, and their states stand in it at the end.
-- Assumes nothing.
use Rattle.std.proofs.Common.{None, Option, Some}
use mathlib.Core.Path.{◌≡◌, refl, sym, ap}
use mathlib.Core.Bool.{Bool, true, false, cond, true≢false}
use mathlib.Core.List.{List, ◌∷◌}
use Prim.Native.Nat.{ℕ, zero, suc}
use lib.Ieee.{Float}
use Rattle.geom.specs.declared.Vec2.{Vec2}
use Rattle.grid.specs.declared.Grid.{Grid}
use Rattle.walk.specs.declared.Course.{Course}
use Rattle.walk.specs.declared.Place.{Place}
use Rattle.walk.specs.Clipping.{ray_start}
use Rattle.walk.specs.Steps.{step_of, left}
use Rattle.walk.specs.Tours.{Visitor, Tour, ends_at, onward, tour_in, tour, tour_from, ray_tour}

-- two choices by tests that agree
pub cond_both : {A B : Type 0} (R : A → B → Type 0) (x x' : Bool) (a b : A) (a' b' : B) → x ≡ x' → R a a' → R b b' → R (cond x a b) (cond x' a' b')
cond_both R true true a b a' b' e h k = h
cond_both R false false a b a' b' e h k = k
cond_both R true false a b a' b' e h k = absurd (true≢false e)
cond_both R false true a b a' b' e h k = absurd (true≢false (sym e))

pub record Together {S S' : Type 0} (R : S → S' → Type 0) (t : Tour S) (t' : Tour S') : Type 0 where
  pub places : t.places ≡ t'.places
  pub final : R t.final t'.final

module _ {S S' : Type 0} (v : Visitor S) (v' : Visitor S') (R : S → S' → Type 0)
    (sees : (k : Course) (p : Place) (s : S) (s' : S') → R s s' → R (v.sees k p s) (v'.sees k p s'))
    (goes : (k : Course) (p : Place) (s : S) (s' : S') → R s s' → v.goes k p s ≡ v'.goes k p s') where
  onward_together
      : (p : Place) (s : S) (s' : S') (f : Place → Tour S) (f' : Place → Tour S') (x : (Option Place)) → R s s' → ((q : Place) → Together R (f q) (f' q))
      → Together R (onward p s f x) (onward p s' f' x)
  onward_together p s s' f f' (Some q) h g = record { places = ap (λ (l : List Place). p ∷ l) (g q).places; final = (g q).final }
  onward_together p s s' f f' None h g = record { places = refl; final = h }

  in_together : (n : ℕ) (k : Course) (p : Place) (s : S) (s' : S') → R s s' → Together R (tour_in v n k p s) (tour_in v' n k p s')
  unfolding tour_in
  in_together zero k p s s' h = record { places = refl; final = sees k p s s' h }
  in_together (suc n) k p s s' h =
      let t = v.sees k p s in
      let t' = v'.sees k p s' in
      let q = sees k p s s' h in
      let f : Place → Tour S = λ z. tour_in v n k z t in
      let f' : Place → Tour S' = λ z. tour_in v' n k z t' in
      cond_both (Together R) (v.goes k p t) (v'.goes k p t') (onward p t f (step_of k p)) (ends_at p t) (onward p t' f' (step_of k p)) (ends_at p t') (goes k p t t' q)
      (onward_together p t t' f f' (step_of k p) q (λ z. in_together n k z t t' q)) (record { places = refl; final = q })

  from_together : (x : (Option (Course × Place))) (s : S) (s' : S') → R s s' → Together R (tour_from v x s) (tour_from v' x s')
  unfolding tour
  from_together (Some (k, p)) s s' h = in_together (left k p) k p s s' h
  from_together None s s' h = record { places = refl; final = h }

  pub ray_together : (g : Grid) (o d : Vec2) (len : Float) (s : S) (s' : S') → R s s' → Together R (ray_tour v g o d len s) (ray_tour v' g o d len s')
  unfolding ray_tour
  ray_together g o d len s s' h = from_together (ray_start g o d len) s s' h

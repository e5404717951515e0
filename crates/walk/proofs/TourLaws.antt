-- The walk, a step at a time: what a caller's loop cites. Its measure is `left`, which falls by `StepLaws.moves`.
-- Assumes nothing.
use Rattle.std.proofs.Common.{None, Option, Some}
use mathlib.Core.Path.{◌≡◌, refl}
use mathlib.Core.Bool.{Bool, true, false, cond}
use Prim.Native.Nat.{ℕ, zero, suc}
use Rattle.lists.specs.Members.{All}
use Rattle.walk.specs.Steps.{step_of, left}
use Rattle.walk.specs.Tours.{Visitor, Tour, ends_at, before, onward, tour_in, tour}
use Rattle.walk.specs.declared.Course.{Course}
use Rattle.walk.specs.declared.Place.{Place}
use Rattle.walk.proofs.StepLaws.{moves}

module _ {S : Type 0} (v : Visitor S) (k : Course) where
  -- the visitor goes on, and there is a next place
  pub tour_next
      : (p q : Place) (s : S) → v.goes k p (v.sees k p s) ≡ true → step_of k p ≡ Some q
      → tour v k p s ≡ before p (tour v k q (v.sees k p s))
  unfolding tour tour_in
  tour_next p q s g e = rw (← (moves k p q e).fewer, g, e)

  end_by : (p : Place) (s : S) (f : Place → Tour S) (b : Bool) → cond b (onward p s f None) (ends_at p s) ≡ ends_at p s
  end_by p s f true = refl
  end_by p s f false = refl

  end_in : (n : ℕ) (p : Place) (s : S) → step_of k p ≡ None → tour_in v n k p s ≡ ends_at p (v.sees k p s)
  unfolding tour_in
  end_in zero p s e = refl
  end_in (suc n) p s e = rw e (end_by p (v.sees k p s) (λ q. tour_in v n k q (v.sees k p s)) (v.goes k p (v.sees k p s)))

  -- there is no next place
  pub tour_end : (p : Place) (s : S) → step_of k p ≡ None → tour v k p s ≡ ends_at p (v.sees k p s)
  unfolding tour
  tour_end p s e = end_in (left k p) p s e

  stop_in : (n : ℕ) (p : Place) (s : S) → v.goes k p (v.sees k p s) ≡ false → tour_in v n k p s ≡ ends_at p (v.sees k p s)
  unfolding tour_in
  stop_in zero p s g = refl
  stop_in (suc n) p s g = rw g

  -- the visitor has seen enough
  pub tour_stop : (p : Place) (s : S) → v.goes k p (v.sees k p s) ≡ false → tour v k p s ≡ ends_at p (v.sees k p s)
  unfolding tour
  tour_stop p s g = stop_in (left k p) p s g

  all_by
      : (P : Place → Type 0) (p : Place) (s : S) (f : Place → Tour S) (b : Bool) (t : (Option Place)) → P p → step_of k p ≡ t
      → ((q : Place) → step_of k p ≡ Some q → All P (f q).places) → All P (cond b (onward p s f t) (ends_at p s)).places
  all_by P p s f false t h e r = (h, tt)
  all_by P p s f true None h e r = (h, tt)
  all_by P p s f true (Some q) h e r = (h, r q e)

  all_in : (P : Place → Type 0) → ((p q : Place) → P p → step_of k p ≡ Some q → P q) → (n : ℕ) (p : Place) (s : S) → P p → All P (tour_in v n k p s).places
  unfolding tour_in
  all_in P m zero p s h = (h, tt)
  all_in P m (suc n) p s h =
      let t = v.sees k p s in
      all_by P p t (λ q. tour_in v n k q t) (v.goes k p t) (step_of k p) h refl (λ q e. all_in P m n q t (m p q h e))

  -- what each step keeps holds at every place of the walk
  pub tour_all : (P : Place → Type 0) → ((p q : Place) → P p → step_of k p ≡ Some q → P q) → (p : Place) (s : S) → P p → All P (tour v k p s).places
  unfolding tour
  tour_all P m p s h = all_in P m (left k p) p s h

-- THE COUNTS, demand 3: the events are at most twice the front edges and two more (`events_most`), and the rays at most twice the events and two more
-- (`rays_most`); the candidates are among the ids that the box query lists (`candidates_most` of `fan`). Assumes nothing.
use mathlib.Core.Path.{◌≡◌, refl, ap, ◌∙◌}
use mathlib.Core.Bool.{Bool, true, false}
use mathlib.Core.List.{List, [], ◌∷◌}
use Prim.Native.Nat.{ℕ, zero, suc, ◌+◌, ◌*◌, ◌≤◌}
use native.Mathlib.Omega.{arith}
use lib.ListN.{length, get_or, length-append}
use lib.Ieee.{Float}
use Rattle.lists.specs.Lists.{bit, sum_to, sum_over}
use Rattle.fan.specs.Fan.{Fanned}
use Rattle.fan.proofs.Bounds.{events_twice}
use Rattle.fan.proofs.Fronts.{no_sides}
use Rattle.events.specs.Spots.{Spot, sides_of}
use Rattle.events.proofs.Bounds.{spots_le, sides_two}
use Rattle.rays.proofs.Emitting.{samples_bound}
use Rattle.stages.specs.Drawing.{Request, view_in, fan_in, unmerged_of, spots_for, no_spot, turns_of, samples_for}

sides_few : (full : Bool) (fov : Float) → length (sides_of full fov) ≤ 2
sides_few true fov = omega arith
sides_few false fov = omega arith

-- a sum over places is a sum over entries
sum_to_first : (f : ℕ → ℕ) (n : ℕ) → sum_to f (suc n) ≡ f 0 + sum_to (λ i. f (suc i)) n
sum_to_first f zero = omega arith
sum_to_first f (suc n) = let h : sum_to f (suc n) ≡ f 0 + sum_to (λ i. f (suc i)) n = sum_to_first f n in omega arith

sum_at : {A : Type 0} (f : A → ℕ) (d : A) (l : List A) → sum_to (λ i. f (get_or l i d)) (length l) ≡ sum_over f l
sum_at f d [] = refl
sum_at f d (x ∷ l) = sum_to_first (λ i. f (get_or (x ∷ l) i d)) (length l) ∙ ap (λ (n : ℕ). f x + n) (sum_at f d l)

module _ (q : Request) (boxes : List Float) (ids : List ℕ) where
  abbrev pub found : Fanned
  found = fan_in q boxes ids

  abbrev pub spots : List Spot
  spots = spots_for (view_in q) (fan_in q boxes ids)

  -- E ≤ 2 F + 2
  pub events_most : length (spots_for (view_in q) (fan_in q boxes ids)) ≤ 2 * length (fan_in q boxes ids).edges + 2
  events_most =
      omega (
        arith,
        spots_le (unmerged_of (view_in q) (fan_in q boxes ids)),
        length-append (fan_in q boxes ids).events (sides_of (view_in q).full (view_in q).fov),
        sides_few (view_in q).full (view_in q).fov,
        events_twice (view_in q) q.points boxes q.polygons ids,
      )

  -- S ≤ 2 E + 2
  pub rays_most : length (samples_for (view_in q) (spots_for (view_in q) (fan_in q boxes ids))) ≤ 2 * length (spots_for (view_in q) (fan_in q boxes ids)) + 2
  unfolding turns_of
  rays_most =
      let sp = spots_for (view_in q) (fan_in q boxes ids) in
      omega (
        arith,
        samples_bound (view_in q) (turns_of sp) (length sp),
        sum_at (λ (s : Spot). bit s.side) no_spot sp,
        sides_two (fan_in q boxes ids).events (view_in q).full (view_in q).fov (no_sides (view_in q) q.points boxes q.polygons ids),
      )

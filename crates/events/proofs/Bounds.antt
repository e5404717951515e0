-- THE COUNTS OF MERGING (document 01's demand on E and S). `spots_le`: there are no more merged events than unmerged ones. `sides_le`: no more
-- sides than among the unmerged ones; with events that are no sides and a sector's two, `sides_two`.
-- Assumes nothing.
use mathlib.Core.Path.{◌≡◌, refl, ap}
use mathlib.Core.Bool.{Bool, true, false, cond, ◌||◌}
use mathlib.Core.List.{List, [], ◌∷◌, ◌++◌}
use Prim.Native.Nat.{ℕ, suc, ◌+◌, ◌≤◌}
use native.Mathlib.Omega.{arith}
use lib.Ieee.{Float}
use lib.ListN.{length}
use Rattle.lists.specs.Lists.{bit, sum_over}
use Rattle.lists.specs.Members.{All}
use Rattle.room.specs.declared.Event.{Event}
use Rattle.sorts.specs.Sort.{sort}
use Rattle.sorts.proofs.Merging.{length_sort}
use Rattle.sorts.proofs.Stable.{sum_sort}
use Rattle.events.specs.Spots.{Spot, opened, is_near, met, closed, gather, gathered, by_angle, sides_of, spots_of, side_count}

-- ---- how many

gather_le : (s : Spot) (es : List Event) → length (gather s es) ≤ suc (length es)
gather_le s [] = omega arith
gather_le s (e ∷ es) = by (is_near s.angle e.angle) (gather_le (met s e) es) (gather_le (opened e) es)
  where
    by : (n : Bool) → length (gather (met s e) es) ≤ suc (length es) → length (gather (opened e) es) ≤ suc (length es)
        → length (cond n (gather (met s e) es) (closed s ∷ gather (opened e) es)) ≤ suc (suc (length es))
    by true a b = omega arith
    by false a b = omega arith

gathered_le : (es : List Event) → length (gathered es) ≤ length es
gathered_le [] = omega arith
gathered_le (e ∷ es) = gather_le (opened e) es

pub spots_le : (es : List Event) → length (spots_of es) ≤ length es
unfolding spots_of
spots_le es = omega (arith, gathered_le (sort by_angle es), length_sort by_angle es)

-- ---- how many sides

abbrev side_events : List Event → ℕ
side_events = sum_over (λ (e : Event). bit e.side)

bit_or : (a b : Bool) → bit (a || b) ≤ bit a + bit b
bit_or true b = omega arith
bit_or false b = omega arith

gather_sides : (s : Spot) (es : List Event) → side_count (gather s es) ≤ bit s.side + side_events es
gather_sides s [] = omega arith
gather_sides s (e ∷ es) = by (is_near s.angle e.angle) (gather_sides (met s e) es) (gather_sides (opened e) es)
  where
    by : (n : Bool) → side_count (gather (met s e) es) ≤ bit (s.side || e.side) + side_events es → side_count (gather (opened e) es) ≤ bit e.side + side_events es
        → side_count (cond n (gather (met s e) es) (closed s ∷ gather (opened e) es)) ≤ bit s.side + (bit e.side + side_events es)
    by true a b = omega (arith, bit_or s.side e.side)
    by false a b = omega arith

gathered_sides : (es : List Event) → side_count (gathered es) ≤ side_events es
gathered_sides [] = omega arith
gathered_sides (e ∷ es) = gather_sides (opened e) es

pub sides_le : (es : List Event) → side_count (spots_of es) ≤ sum_over (λ (e : Event). bit e.side) es
unfolding spots_of
sides_le es = omega (arith, gathered_sides (sort by_angle es), sum_sort by_angle (λ (e : Event). bit e.side) es)

no_sides : (es l : List Event) → All (λ (e : Event). e.side ≡ false) es → side_events (es ++ l) ≡ side_events l
no_sides [] l h = refl
no_sides (e ∷ es) l h = let z : bit e.side ≡ 0 = ap bit h.0 in omega (arith, no_sides es l h.1)

two_sides : (full : Bool) (fov : Float) → side_events (sides_of full fov) ≤ 2
two_sides true fov = omega arith
two_sides false fov = omega arith

pub sides_two : (es : List Event) (full : Bool) (fov : Float) → All (λ (e : Event). e.side ≡ false) es → side_count (spots_of (es ++ sides_of full fov)) ≤ 2
sides_two es full fov h = omega (arith, sides_le (es ++ sides_of full fov), no_sides es (sides_of full fov) h, two_sides full fov)

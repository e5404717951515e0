-- The numbers that stand for bools, enums and structs in the C interface. Definitions only.
use Rattle.std.specs.Prelude.{Bool, true, false, List, [], ◌∷◌, ℕ, ◌+◌, ◌*◌, get_or, Float, None, Option, Some}
use Rattle.std.specs.Float.{nan}
use Rattle.num.specs.Ops.{zero_f}
use Rattle.std.specs.declared.cmp.Ordering.{Ordering}
use Rattle.std.specs.declared.cmp.Ordering.TheVariants.{Less, Equal, Greater}
use Rattle.geom.specs.declared.Vec2.{Vec2}
use Rattle.geom.specs.declared.Aabb.{Aabb}
use Rattle.geom.specs.Vec.{vec, origin}
use Rattle.geom.specs.Box.{box}

-- 1 for yes, 0 for no
abbrev pub bit : Bool → ℕ
bit true = 1
bit false = 0

-- 0 for less, 1 for equal, 2 for greater
abbrev pub place : Ordering → ℕ
place Less = 0
place Equal = 1
place Greater = 2

-- ---- points and boxes: x before y, the low corner before the high one
abbrev pub pair : Vec2 → List Float
pair v = v.x ∷ v.y ∷ []

abbrev pub four : Vec2 → Vec2 → List Float
four v w = v.x ∷ v.y ∷ w.x ∷ w.y ∷ []

abbrev pub box_four : Aabb → List Float
box_four b = four b.min b.max

-- the box that four numbers stand for
abbrev pub box_of : List Float → Aabb
box_of b = box (vec (get_or b 0 nan) (get_or b 1 nan)) (vec (get_or b 2 nan) (get_or b 3 nan))

-- ---- a hit is 1 and its distance, a miss 0 and 0
abbrev pub hit : Option Float → ℕ
hit (Some t) = 1
hit None = 0

abbrev pub reach_of : Option Float → Float
reach_of (Some t) = t
reach_of None = zero_f

-- ---- a meeting is 1 and its point, none is 0 and the origin
abbrev pub met : Option Vec2 → ℕ
met (Some p) = 1
met None = 0

abbrev pub point_of : Option Vec2 → Vec2
point_of (Some p) = p
point_of None = origin

-- two of them: bit 0 for the first, bit 1 for the second
abbrev pub met_both : List (Option Vec2) → ℕ
met_both m = met (get_or m 0 None) + 2 * met (get_or m 1 None)

abbrev pub points_of : List (Option Vec2) → List Float
points_of m = four (point_of (get_or m 0 None)) (point_of (get_or m 1 None))

-- ---- a part is 1 and its two parameters, none is 0 and zeros
abbrev pub part : Option (Float × Float) → ℕ
part (Some (from, to)) = 1
part None = 0

abbrev pub part_of : Option (Float × Float) → Vec2
part_of (Some (from, to)) = vec from to
part_of None = origin

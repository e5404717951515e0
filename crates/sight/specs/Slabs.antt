-- The box test of `cast_ray`: the Rust's `ray_hits_aabb` (scene.rs, lines 352 to 363). One rounding for each operation, in the Rust's order; `min_of` and `max_of`
-- are Rust's `min` and `max`, which pass over a NaN (document 01, "Errors that look right", 2). Definitions only.
use Rattle.std.specs.Prelude.{Bool, not, ◌||◌, Float}
use Rattle.std.specs.Float.Ieee.{lt}
use Rattle.num.specs.Ops.{◌⊖◌, ◌⊗◌, zero_f}
use Rattle.num.specs.Num.{min_of, max_of}
use Rattle.geom.specs.declared.Vec2.{Vec2}
use Rattle.geom.specs.declared.Aabb.{Aabb}

-- the ray from o, with inv = 1 / d for each axis, meets the box b at a t from 0 to t_max, or a NaN leaves that open
unfoldable pub ray_hits_aabb_of : Vec2 → Vec2 → Aabb → Float → Bool
ray_hits_aabb_of o inv b t_max =
    let tx1 = (b.min.x ⊖ o.x) ⊗ inv.x in
    let tx2 = (b.max.x ⊖ o.x) ⊗ inv.x in
    let ty1 = (b.min.y ⊖ o.y) ⊗ inv.y in
    let ty2 = (b.max.y ⊖ o.y) ⊗ inv.y in
    let near = max_of (min_of tx1 tx2) (min_of ty1 ty2) in
    let far = min_of (max_of tx1 tx2) (max_of ty1 ty2) in
    not (lt far (max_of near zero_f) || lt t_max near)

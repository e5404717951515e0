-- MODE 0 IS THE RUST'S RULE: `rust-ray`: the cast in mode 0 is the cast of specs/Rust.antt, hit and cells. Assumes nothing.
use Rattle.std.proofs.Common.{None, Option, Some}
use Prim.Native.Nat.{ℕ}
use mathlib.Core.Path.{◌≡◌, refl, ap, fun_ext}
use mathlib.Core.Bool.{Bool, true, false, cond}
use mathlib.Core.List.{List}
use lib.Ieee.{Float, lt, eq}
use Rattle.geom.specs.declared.Vec2.{Vec2}
use Rattle.grid.specs.declared.Grid.{Grid}
use Rattle.sight.specs.declared.Best.{Best}
use Rattle.sight.specs.Casting.{Rule, nearer_of, cast_by, cast_ray_of}
use Rattle.sight.specs.Rust.{rust_nearer, rust_cast_ray}

same : (b x : Best) (p q : Bool) → cond p x (cond q b b) ≡ cond p x b
same b x true q = refl
same b x false true = refl
same b x false false = refl

nearer_same : (b : Best) (m : (Option Float)) (e : ℕ) → nearer_of 0 b m e ≡ rust_nearer b m e
unfolding nearer_of rust_nearer
nearer_same b (Some t) e = same b _ (lt t b.t) (eq t b.t)
nearer_same b None e = refl

pub rust_nearer_lem : nearer_of 0 ≡ rust_nearer
rust_nearer_lem = fun_ext (λ b. fun_ext (λ m. fun_ext (λ e. nearer_same b m e)))

pub rust_ray
    : (g : Grid) (points boxes : List Float) (polygons starts items : List ℕ) (o d : Vec2) (len : Float)
    → cast_ray_of g points boxes polygons starts items o d len 0 ≡ rust_cast_ray g points boxes polygons starts items o d len
unfolding cast_ray_of rust_cast_ray
rust_ray g points boxes polygons starts items o d len = ap (λ (rule : Rule). cast_by rule g points boxes polygons starts items o d len) rust_nearer_lem

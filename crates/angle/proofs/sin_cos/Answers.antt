-- `angle::sin_cos` meets its contract. Assumes nothing.
use mathlib.Core.Path.{◌≡◌, refl}
use mathlib.Core.Bool.{Bool, true, false, ◌&&◌, cond}
use lib.Ieee.{Float, le}
use Rattle.angle.specs.Angles.{k_minus_pi4, k_pi4, sin_near, cos_near, sin_far, cos_far, sin_of, cos_of}
use Rattle.angle.proofs.sin_cos.Goals as goal

-- two tests one inside the other are both at once
nested : (a b : Bool) → (u v : Float) → cond a (cond b u v) v ≡ cond (a && b) u v
nested true b u v = refl
nested false b u v = refl

pub returns-then-x : goal.returns-then-x
unfolding sin_of cos_of
returns-then-x c = (
  simp (c.sin_cos_near.ensures.0, nested (le k_minus_pi4 c.args.x) (le c.args.x k_pi4) (sin_near c.args.x) (sin_far c.args.x), c.if-x.true),
  simp (c.sin_cos_near.ensures.1, nested (le k_minus_pi4 c.args.x) (le c.args.x k_pi4) (cos_near c.args.x) (cos_far c.args.x), c.if-x.true),
)

pub returns : goal.returns
unfolding sin_of cos_of
returns c = (
  simp (c.sin_cos_far.ensures.0, nested (le k_minus_pi4 c.args.x) (le c.args.x k_pi4) (sin_near c.args.x) (sin_far c.args.x), c.if-x.false),
  simp (c.sin_cos_far.ensures.1, nested (le k_minus_pi4 c.args.x) (le c.args.x k_pi4) (cos_near c.args.x) (cos_far c.args.x), c.if-x.false),
)

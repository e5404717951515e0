-- The rays of an outline: one on each side of every event and an exact one at a sector's side, in order of angle, each cast in turn
-- (`visibility.rs`, lines 380 to 417). Document 01: "Each sample holds its angle, event, offset and that answer"; samples are cast in turn.
-- An offset is 0 before the event, 1 at it and 2 after it: the Rust's -1, 0 and 1. Definitions only.
use Rattle.std.specs.Prelude.{◌≡◌, Bool, true, false, cond, Option, Some, None, List, [], ◌++◌, map, ℕ, eqb, Float}
use Rattle.std.specs.Float.Ieee.{neg, lt, le}
use Rattle.num.specs.Ops.{◌⊕◌, ◌⊖◌, ◌⊗◌, zero_f, one_f}
use Rattle.num.specs.Order.{before}
use Rattle.lists.specs.Lists.{cons_if, joined}
use Rattle.geom.specs.Constants.{tau}
use Rattle.geom.specs.Segment.{within}
use Rattle.geom.specs.Vec.{from_angle_of}
use Rattle.cone.specs.declared.View.{View}
use Rattle.sorts.specs.Sort.{sort}
use Rattle.sorts.specs.By.{in_order}
use Rattle.room.specs.declared.Sample.{Sample}
use Rattle.room.specs.Constants.{angle_eps}
use Rattle.room.specs.Records.{with_hit}
use Rattle.index.specs.Angular.{Index}
use Rattle.index.specs.Casting.{cast_of, is_tied}
use Rattle.site.specs.Hits.{hit_at}
use Rattle.site.specs.declared.RayHit.{RayHit}

-- `f64::from(offset)`
unfoldable pub step_of : ℕ → Float
step_of offset = cond (eqb offset 0) (neg one_f) (cond (eqb offset 1) zero_f one_f)

-- an angle of a full circle, brought back past its seam
unfoldable pub wrap_of : Float → Float
wrap_of a = cond (lt a zero_f) (a ⊕ tau) (cond (le tau a) (a ⊖ tau) a)

-- the angle of a ray, and whether it lies in the view
pub record Aim : Type 0 where
  pub kept : Bool
  pub angle : Float

-- the angle, where it lies in the view
abbrev pub aimed : Aim → Option Float
aimed a = cond a.kept (Some a.angle) None

abbrev pub aim_by : Bool → Float → Aim
aim_by kept angle = record { kept = kept; angle = angle }

unfoldable pub aim_of : View → Float → ℕ → Aim
unfolding step_of wrap_of
aim_of view event offset =
    let a = event ⊕ step_of offset ⊗ angle_eps in
    cond view.full (aim_by true (wrap_of a)) (aim_by (within zero_f view.fov a) a)

-- ---- the samples of the events
-- what a ray goes by: the angle of an event, and whether it is a sector's side
pub record Turn : Type 0 where
  pub angle : Float
  pub side : Bool

abbrev pub sample_of : Float → ℕ → ℕ → Sample
sample_of angle event offset = record { angle = angle; event = event; offset = offset; hit = None }

-- one ray of an event, where it lies in the view
unfoldable pub ray_of : View → ℕ → Float → ℕ → List Sample
unfolding aim_of
ray_of view i angle offset = cons_if (aim_of view angle offset).kept (sample_of (aim_of view angle offset).angle i offset) []

-- the rays of the event i
unfoldable pub rays_of : View → ℕ → Turn → List Sample
unfolding ray_of
rays_of view i t = ray_of view i t.angle 0 ++ (cond t.side (ray_of view i t.angle 1) [] ++ ray_of view i t.angle 2)

-- those of n events, event after event
unfoldable pub samples_of : View → (ℕ → Turn) → ℕ → List Sample
unfolding rays_of
samples_of view turns n = joined (λ i. rays_of view i (turns i)) n

-- ---- their order, and their answers
abbrev pub earlier : Sample → Sample → Bool
earlier s t = before s.angle t.angle

-- left as they are where each angle is at most the next, else sorted by angle
unfoldable pub ordered_of : List Sample → List Sample
ordered_of l = cond (in_order (map (λ s. s.angle) l)) l (sort earlier l)

-- what the ray at an angle hits
unfoldable pub hit_of : View → Index → Float → Option RayHit
unfolding cast_of
hit_of view x angle = cast_of x view.o angle (from_angle_of (view.start ⊕ angle)) view.r

abbrev pub cast_ray : View → Index → Sample → Sample
cast_ray view x s = with_hit s (hit_of view x s.angle)

-- whether it met a further edge at exactly that distance
unfoldable pub tied_on : View → Index → Float → Bool
unfolding is_tied
tied_on view x angle = is_tied x view.o angle (from_angle_of (view.start ⊕ angle)) view.r

-- it did not, if it hits
abbrev pub Lone : View → Index → Sample → Type 0
Lone view x s = (t : Float) (e : ℕ) → hit_of view x s.angle ≡ hit_at t e → tied_on view x s.angle ≡ false

-- THE RAYS: in order of angle, each with its answer
unfoldable pub rays_cast : View → Index → List Sample → List Sample
unfolding ordered_of hit_of
rays_cast view x l = map (cast_ray view x) (ordered_of l)

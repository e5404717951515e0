-- THE RUN THAT BOUNDS NO LIST GOES BY NO BOUND (`lengths_free`): how long its lists get (specs/Unbounded.antt) does not hang on the entries that are stated, nor on the
-- room or the output slices that are lent; only on the site, the cone, the tolerance, the mode and the stamps. Assumes nothing.
use mathlib.Core.Path.{◌≡◌, refl, ap}
use mathlib.Core.Bool.{cond}
use mathlib.Core.List.{List, [], ◌∷◌}
use Prim.Native.Nat.{ℕ}
use lib.Ieee.{Float}
use Rattle.site.specs.declared.Site.{Site}
use Rattle.site.specs.Tables.{Tables}
use Rattle.site.specs.Domain.{load_of}
use Rattle.cone.specs.declared.ViewCone.{ViewCone}
use Rattle.cone.specs.Domain.{load_cone_of}
use Rattle.room.specs.declared.Rooms.{Rooms}
use Rattle.fan.specs.Fan.{Fanned}
use Rattle.events.specs.Spots.{Spot}
use Rattle.sweep.specs.Recorder.{free, free_begin}
use Rattle.sweep.proofs.Freely.{sweep_same}
use Rattle.credit.specs.Credit.{no_marks}
use Rattle.stages.specs.Drawing.{Request, request, view_in, spots_for, rays_for, course_of}
use Rattle.view.specs.declared.Plan.{Plan}
use Rattle.view.specs.declared.Plan.TheVariants.{Empty, Inside, Query}
use Rattle.view.specs.Post.{plan_of}
use Rattle.view.specs.Outcome.{lent, request_of}
use Rattle.demand.specs.Unbounded.{growing, swept_lengths, fanned_lengths, planned_lengths, lengths_of}

-- ---- the lists of a call
module _ (k k' : Rooms) (points : List Float) (polygons owners : List ℕ) (c : ViewCone) (tolerance : Float) (mode numbers numbers' ids ids' : ℕ) where
  abbrev q : Request
  q = request k points polygons owners c tolerance mode numbers ids

  abbrev q' : Request
  q' = request k' points polygons owners c tolerance mode numbers' ids'

  growing_same : (f : Fanned) (sp : List Spot) → growing q f sp ≡ growing q' f sp
  growing_same f sp =
      sweep_same (course_of q f.edges sp).env.cast (course_of q f.edges sp).env.credits (view_in q) points polygons owners k.owners k'.owners (free (course_of q f.edges sp).env)
      (course_of q f.edges sp).step k.seen k'.seen (course_of q f.edges sp).corners (rays_for q.mode (view_in q) f.edges sp) (free_begin (view_in q) no_marks)

  swept_same : (n : ℕ) (f : Fanned) (sp : List Spot) → swept_lengths q n f sp ≡ swept_lengths q' n f sp
  unfolding swept_lengths
  swept_same n f [] = refl
  swept_same n f (s ∷ l) = rw (growing_same f (s ∷ l))

  fanned_same : (n : ℕ) (f : Fanned) → fanned_lengths q n f ≡ fanned_lengths q' n f
  unfolding fanned_lengths
  fanned_same n f = ap (cond f.touch _) (swept_same n f (spots_for (view_in q) f))

-- THE THEOREM
module _ (s : Site) (t : Tables) (c : ViewCone) (tolerance : Float) (mode : ℕ) (marks : List ℕ) (epoch : ℕ) where
  pub lengths_free : (k k' : Rooms) (floats floats' : List Float) (words words' : List ℕ) (outline outline' : List Float) (visible visible' : List ℕ)
      → lengths_of s t c tolerance mode k (lent marks epoch floats words outline visible) ≡ lengths_of s t c tolerance mode k' (lent marks epoch floats' words' outline' visible')
  unfolding lengths_of planned_lengths
  lengths_free k k' floats floats' words words' outline outline' visible visible' = by (plan_of s.grid t.points t.boxes t.polygons t.starts t.items (load_cone_of c))
    where
      by : (p : Plan)
          → planned_lengths p s t (request_of k t (load_cone_of c) (load_of tolerance) mode (lent marks epoch floats words outline visible)) (lent marks epoch floats words outline visible)
          ≡ planned_lengths p s t (request_of k' t (load_cone_of c) (load_of tolerance) mode (lent marks epoch floats' words' outline' visible')) (lent marks epoch floats' words' outline' visible')
      by Empty = refl
      by Inside = refl
      by (Query b) = fanned_same k k' t.points t.polygons t.owners (load_cone_of c) (load_of tolerance) mode _ _ _ _ _ _

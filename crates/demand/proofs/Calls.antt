-- STAMPS OVER ANY CALLS (`calls_kept`): stamps that are begun empty, lent whole and touched by our calls alone stay fresh and as many as they were, whichever sites
-- the calls are of, in whichever order they come, refused or not. Document 01, demand 3. Assumes nothing.
use Rattle.std.proofs.Common.{None, Option, Some, Result, Ok, Err}
use mathlib.Core.Path.{◌≡◌, refl, ◌∙◌}
use mathlib.Core.Bool.{Bool, true, false, cond}
use mathlib.Core.List.{List, [], ◌∷◌}
use Prim.Native.Nat.{ℕ}
use lib.Dec.{ltb}
use lib.ListN.{length, replicate, length-replicate}
use lib.Ieee.{Float}
use Rattle.geom.specs.declared.Aabb.{Aabb}
use Rattle.grid.specs.declared.Grid.{Grid}
use Rattle.grid.specs.Range.{range_of}
use Rattle.grid.specs.Stamps.{Fresh, epoch_after, marks_begun}
use Rattle.grid.specs.Entries.{entries_in}
use Rattle.grid.specs.Query as query
use Rattle.grid.proofs.Stamping.{length_stamped}
use Rattle.grid.proofs.BoxQuery.{begun_length}
use Rattle.grid.proofs.FreshStamps.{query_fresh, new_fresh}
use Rattle.site.specs.declared.Site.{Site}
use Rattle.site.specs.Tables.{Tables}
use Rattle.site.specs.Domain.{box_in_domain, load_box_of, load_of}
use Rattle.site.specs.Soundness.{sound_of}
use Rattle.scene.specs.Asked.{asked}
use Rattle.refusal.specs.declared.Refusal.{Refusal}
use Rattle.refusal.specs.declared.Refusal.TheVariants.{OutsideDomain, Unsound, FewStamps}
use Rattle.scene.specs.Stamping.{NewOutcome, new_kept, new_stamps_of, kept, polygons_near_of}
use Rattle.cone.specs.declared.ViewCone.{ViewCone}
use Rattle.room.specs.declared.Rooms.{Rooms}
use Rattle.view.specs.declared.Plan.{Plan}
use Rattle.view.specs.declared.Plan.TheVariants.{Empty, Inside, Query}
use Rattle.cone.specs.Domain.{load_cone_of}
use Rattle.visibility.specs.Asked.{admit_of}
use Rattle.view.specs.Post.{plan_of}
use Rattle.view.specs.Outcome.{Lent, look_of, seen_from_of}
use Rattle.visibility.specs.Outcome.{outcome_by, outcome}
use Rattle.demand.specs.Calls.{Stamps, stamps, begun, lent_with, Call, renews, nears, outlines, clears, asks, draws, after, after_all}
use Rattle.grid.specs.declared.CellRange.{CellRange}

-- ---- n marks, and fresh
pub record Kept (n e : ℕ) (m : List ℕ) : Type 0 where
  pub fresh : Fresh e m
  pub long : length m ≡ n

long_by : (g : Grid) (r : Option CellRange) (starts items m : List ℕ) (e k : ℕ) → length (query.outcome_by g r starts items m e k).marks ≡ length m
unfolding query.outcome_by
long_by g None starts items m e k = refl
long_by g (Some r) starts items m e k = length_stamped (epoch_after e) (marks_begun e m) (entries_in g r starts items) ∙ begun_length e m _ refl

-- ---- call by call
clear_kept : (n e : ℕ) (m : List ℕ) → Kept n e m → Kept n 0 (replicate (length m) 0)
clear_kept n e m h = record { fresh = new_fresh (length m); long = length-replicate (length m) 0 ∙ h.long }

query_kept : (n : ℕ) (g : Grid) (b : Aabb) (starts items m : List ℕ) (e k : ℕ) → Kept n e m → Kept n (query.outcome g b starts items m e k).epoch (query.outcome g b starts items m e k).marks
unfolding query.outcome
query_kept n g b starts items m e k h = record { fresh = query_fresh g b starts items m e k h.fresh; long = long_by g (range_of g b) starts items m e k ∙ h.long }

-- what each refusal has, and the answer too, a question's outcome has: of the tests 6 and 1, and then 7
module _ {A : Type 0} (P : A → Type 0) (refuse : Refusal → A) (refused : (r : Refusal) → P (refuse r)) where
  either : (b : Bool) (x y : A) → P x → P y → P (cond b x y)
  either true x y f g = f
  either false x y f g = g

  asked_has : (site : Site) (t : Tables) (inside few : Bool) (a : A) → P a → P (asked refuse site t inside (cond few (refuse FewStamps) a))
  unfolding asked
  asked_has site t inside few a h =
      either (sound_of site t) _ (refuse Unsound) (either inside _ (refuse OutsideDomain) (either few (refuse FewStamps) a (refused FewStamps) h) (refused OutsideDomain)) (refused Unsound)

look_kept : (n : ℕ) (p : Plan) (g : Grid) (starts items m : List ℕ) (e room : ℕ) → Kept n e m → Kept n (look_of p g starts items m e room).epoch (look_of p g starts items m e room).marks
unfolding look_of
look_kept n Empty g starts items m e room f = f
look_kept n Inside g starts items m e room f = f
look_kept n (Query b) g starts items m e room f = query_kept n g b starts items m e room f

module _ (n : ℕ) (site : Site) (t : Tables) (k : Rooms) (l : Lent) where
  draw_kept : (c : ViewCone) (tolerance : Float) (mode : ℕ) → Kept n l.epoch l.marks → Kept n (seen_from_of site t c tolerance mode k l).left.epoch (seen_from_of site t c tolerance mode k l).left.marks
  unfolding seen_from_of
  draw_kept c tolerance mode f = look_kept n (plan_of site.grid t.points t.boxes t.polygons t.starts t.items c) site.grid t.starts t.items l.marks l.epoch _ f

  outline_by : (c : ViewCone) (tolerance : Float) (mode : ℕ) (q : Result (Unit {0}) Refusal) → Kept n l.epoch l.marks
      → Kept n (outcome_by q site t c tolerance mode k l).left.epoch (outcome_by q site t c tolerance mode k l).left.marks
  outline_by c tolerance mode (Ok u) f = draw_kept (load_cone_of c) (load_of tolerance) mode f
  outline_by c tolerance mode (Err r) f = f

  outline_kept : (c : ViewCone) (tolerance : Float) (mode : ℕ) → Kept n l.epoch l.marks → Kept n (outcome site t c tolerance mode k l).left.epoch (outcome site t c tolerance mode k l).left.marks
  unfolding outcome
  outline_kept c tolerance mode f = outline_by c tolerance mode (admit_of site t c mode (length l.marks)) f

pub call_kept : (n : ℕ) (c : Call) (s : Stamps) → Kept n s.epoch s.marks → Kept n (after c s).epoch (after c s).marks
unfolding new_stamps_of polygons_near_of
call_kept n (renews site t) s h =
    asked_has (λ (o : NewOutcome). Kept n o.epoch o.marks) (new_kept s.marks s.epoch) (λ r. h) site t true (ltb (length s.marks) site.polygons) _ (clear_kept n s.epoch s.marks h)
call_kept n (nears site t b ids) s h =
    asked_has (λ (o : query.Outcome). Kept n o.epoch o.marks) (kept s.marks s.epoch ids) (λ r. h) site t (box_in_domain b) (ltb (length s.marks) site.polygons) _
    (query_kept n site.grid (load_box_of b) t.starts t.items s.marks s.epoch (length ids) h)
call_kept n (outlines site t c tolerance mode k floats words outline visible) s h = outline_kept n site t k (lent_with s floats words outline visible) c tolerance mode h
call_kept n clears s h = clear_kept n s.epoch s.marks h
call_kept n (asks g starts items b room) s h = query_kept n g b starts items s.marks s.epoch room h
call_kept n (draws site t c tolerance mode k floats words outline visible) s h = draw_kept n site t k (lent_with s floats words outline visible) c tolerance mode h

all_kept : (n : ℕ) (cs : List Call) (s : Stamps) → Kept n s.epoch s.marks → Kept n (after_all cs s).epoch (after_all cs s).marks
all_kept n [] s h = h
all_kept n (c ∷ cs) s h = all_kept n cs (after c s) (call_kept n c s h)

-- ---- stamps are begun empty by `new_stamps` too, whatever they held before: where it answers, they are as `begun` has them
pub new_begun : (site : Site) (t : Tables) (s : Stamps) → (new_stamps_of site t s.marks s.epoch).answer ≡ Ok tt → after (renews site t) s ≡ begun (length s.marks)
unfolding new_stamps_of
new_begun site t s =
    asked_has (λ (o : NewOutcome). o.answer ≡ Ok tt → stamps o.marks o.epoch ≡ begun (length s.marks)) (new_kept s.marks s.epoch) (λ r e. cc) site t true
    (ltb (length s.marks) site.polygons) _ (λ e. refl)

-- THE THEOREM
pub calls_kept : (n : ℕ) (cs : List Call) → Kept n (after_all cs (begun n)).epoch (after_all cs (begun n)).marks
calls_kept n cs = all_kept n cs (begun n) (record { fresh = new_fresh n; long = length-replicate n 0 })

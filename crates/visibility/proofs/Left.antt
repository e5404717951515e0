-- WHAT A CALL LEAVES: the stamps do not go by the room (`stamps_free`), and a refusal as 8 leaves every work and output cell zero (`eight_zero`).
-- Document 01, "Refusal numbers". Assumes nothing.
use Rattle.std.proofs.Common.{None, Option, Some, Err, Result, Ok}
use mathlib.Core.Path.{◌≡◌, refl, ap, ◌∙◌}
use mathlib.Core.Bool.{Bool, true, false, ◌&&◌, cond}
use mathlib.Core.List.{List, [], ◌∷◌}
use Prim.Native.Nat.{ℕ, ◌*◌, min}
use lib.Dec.{leb, ltb}
use lib.ListN.{length, replicate}
use lib.Ieee.{Float}
use Rattle.num.specs.Ops.{zero_f}
use Rattle.lists.proofs.Zeros.{padded_nil}
use Rattle.sorts.specs.Visible.{marked_of}
use Rattle.grid.specs.declared.Grid.{Grid}
use Rattle.grid.specs.declared.Listing.{Listing}
use Rattle.grid.specs.Range.{range_of}
use Rattle.grid.specs.Query as query
use Rattle.site.specs.declared.Site.{Site}
use Rattle.site.specs.Tables.{Tables}
use Rattle.site.specs.Domain.{load_of}
use Rattle.site.specs.Soundness.{sound_of}
use Rattle.scene.specs.Asked.{asked}
use Rattle.cone.specs.declared.ViewCone.{ViewCone}
use Rattle.cone.specs.Cone.{outline_of}
use Rattle.room.specs.declared.Rooms.{Rooms}
use Rattle.room.specs.declared.LocalEdge.{LocalEdge}
use Rattle.room.specs.Layout.{is_short}
use Rattle.fan.specs.Fan.{Fanned, is_over}
use Rattle.events.specs.Spots.{Spot}
use Rattle.refining.specs.Refine.{Run}
use Rattle.view.specs.declared.Plan.{Plan}
use Rattle.view.specs.declared.Plan.TheVariants.{Empty, Inside, Query}
use Rattle.stages.specs.declared.Shown.{Shown}
use Rattle.cone.specs.Domain.{cone_in_domain, load_cone_of}
use Rattle.visibility.specs.Asked.{asked_in_domain, admit_of}
use Rattle.view.specs.Post.{plan_of}
use Rattle.stages.specs.Drawing.{Request, view_in, Drawing, eight, plain, fan_in, spots_for, events_over, circle_by, rays_over, run_of, swept_of, spotted, fanned, staged_of}
use Rattle.view.specs.Outcome.{Lent, look_of, listed_by, planned, drawn_of, request_of, look_in, seen_from_of}
use Rattle.visibility.specs.Outcome.{outcome_by, outcome}
use Rattle.visibility.proofs.Admitting.{tests}
use Rattle.grid.specs.declared.CellRange.{CellRange}
use Rattle.refusal.specs.declared.Refusal.{Refusal}
use Rattle.grid.specs.Query.{counted}
use Rattle.refusal.specs.declared.Refusal.TheVariants.{NoListRoom, FewStamps}

-- ---- the stamps
pub record SameStamps (x y : Lent) : Type 0 where
  pub marks : x.marks ≡ y.marks
  pub epoch : x.epoch ≡ y.epoch

query_free : (g : Grid) (r : (Option CellRange)) (starts items m : List ℕ) (e j j' : ℕ)
    → ((query.outcome_by g r starts items m e j).marks ≡ (query.outcome_by g r starts items m e j').marks) × ((query.outcome_by g r starts items m e j).epoch ≡ (query.outcome_by g r starts items m e j').epoch)
unfolding query.outcome_by
query_free g None starts items m e j j' = (refl, refl)
query_free g (Some r) starts items m e j j' = (refl, refl)

look_free : (p : Plan) (g : Grid) (starts items m : List ℕ) (e j j' : ℕ)
    → ((look_of p g starts items m e j).marks ≡ (look_of p g starts items m e j').marks) × ((look_of p g starts items m e j).epoch ≡ (look_of p g starts items m e j').epoch)
unfolding look_of query.outcome
look_free Empty g starts items m e j j' = (refl, refl)
look_free Inside g starts items m e j j' = (refl, refl)
look_free (Query b) g starts items m e j j' = query_free g (range_of g b) starts items m e j j'

module _ (site : Site) (t : Tables) (c : ViewCone) (tolerance tolerance' : Float) (mode mode' : ℕ) (k k' : Rooms) where
  seen_free : (c' : ViewCone) (x y : Float) (l l' : Lent) → SameStamps l l' → SameStamps (seen_from_of site t c' x mode k l).left (seen_from_of site t c' y mode' k' l').left
  unfolding seen_from_of
  seen_free c' x y l l' s =
      let p = plan_of site.grid t.points t.boxes t.polygons t.starts t.items c' in
      let f = look_free p site.grid t.starts t.items l'.marks l'.epoch (min k.ids (length l.words)) (min k'.ids (length l'.words)) in
      record { marks = rw (s.marks, s.epoch) f.0; epoch = rw (s.marks, s.epoch) f.1 }

  by : (n : Result (Unit {0}) Refusal) (l l' : Lent) → SameStamps l l' → SameStamps (outcome_by n site t c tolerance mode k l).left (outcome_by n site t c tolerance' mode' k' l').left
  by (Ok u) l l' s = seen_free (load_cone_of c) (load_of tolerance) (load_of tolerance') l l' s
  by (Err r) l l' s = s

  -- the tests see of a mode only whether it is one
  admit_same : leb mode 1 ≡ leb mode' 1 → (m : ℕ) → admit_of site t c mode m ≡ admit_of site t c mode' m
  unfolding admit_of
  admit_same h m = ap (λ (b : Bool). asked Err site t (cone_in_domain c && b) (cond (ltb m site.polygons) (Err FewStamps) (Ok tt))) h

  -- neither the stated entries, nor what is lent beside the stamps, nor the tolerance, nor which of the two modes it is moves the stamps
  pub stamps_free : leb mode 1 ≡ leb mode' 1 → (l l' : Lent) → SameStamps l l' → SameStamps (outcome site t c tolerance mode k l).left (outcome site t c tolerance' mode' k' l').left
  unfolding outcome
  stamps_free h l l' s =
      rw (ap (λ (m : List ℕ). admit_of site t c mode (length m)) s.marks ∙ admit_same h (length l'.marks))
      (by (admit_of site t c mode' (length l'.marks)) l l' s)

-- ---- refused as 8
-- a drawing refused as 8 has empty lists
record Blank (d : Drawing) : Type 0 where
  pub pts : d.pts ≡ []
  pub ids : d.ids ≡ []

seen_not : {A : Type 0} {s : Shown} → ◌≡◌ {A = Result Shown Refusal} (Ok s) (Err NoListRoom) → A
seen_not e = cc

on_eight : (b : Bool) (d : Drawing) → (d.answer ≡ Err NoListRoom → Blank d) → (cond b eight d).answer ≡ Err NoListRoom → Blank (cond b eight d)
on_eight true d h e = record { pts = refl; ids = refl }
on_eight false d h e = h e

on_plain : (b u v : Bool) (d : Drawing) → (d.answer ≡ Err NoListRoom → Blank d) → (cond b (plain u v) d).answer ≡ Err NoListRoom → Blank (cond b (plain u v) d)
on_plain true u v d h e = seen_not e
on_plain false u v d h e = h e

circle_blank : (c : ViewCone) (tolerance : Float) (candidates edges numbers : ℕ) → (circle_by c tolerance candidates edges numbers).answer ≡ Err NoListRoom → Blank (circle_by c tolerance candidates edges numbers)
unfolding circle_by
circle_blank c tolerance candidates edges numbers = on_eight (ltb numbers (2 * length (outline_of c tolerance))) _ (λ e. seen_not e)

module _ (q : Request) where
  swept_blank : (candidates : ℕ) (es : List LocalEdge) (sp : List Spot) (run : Run) → (swept_of q candidates es sp run).answer ≡ Err NoListRoom → Blank (swept_of q candidates es sp run)
  unfolding swept_of
  swept_blank candidates es sp run = on_eight run.at.over _ (on_eight (ltb q.ids (length (marked_of run.marks))) _ (λ e. seen_not e))

  spotted_blank : (candidates : ℕ) (es : List LocalEdge) (sp : List Spot) → (spotted q candidates es sp).answer ≡ Err NoListRoom → Blank (spotted q candidates es sp)
  unfolding spotted
  spotted_blank candidates es [] = circle_blank q.cone q.tolerance candidates (length es) q.numbers
  spotted_blank candidates es (s ∷ l) =
      on_eight (rays_over q.k (view_in q) es (s ∷ l)) (swept_of q candidates es (s ∷ l) (run_of q es (s ∷ l))) (swept_blank candidates es (s ∷ l) (run_of q es (s ∷ l)))

  fanned_blank : (g : Fanned) → (fanned q g).answer ≡ Err NoListRoom → Blank (fanned q g)
  unfolding fanned
  fanned_blank g =
      let d = spotted q g.candidates g.edges (spots_for (view_in q) g) in
      let e = cond (events_over q.k (view_in q) g) eight d in
      on_eight (is_over q.k (length g.edges) (length g.events)) (cond g.touch (plain true (view_in q).full) e)
      (on_plain g.touch true (view_in q).full e (on_eight (events_over q.k (view_in q) g) d (spotted_blank g.candidates g.edges (spots_for (view_in q) g))))

  staged_blank : (boxes : List Float) (ids : List ℕ) → (staged_of q boxes ids).answer ≡ Err NoListRoom → Blank (staged_of q boxes ids)
  unfolding staged_of
  staged_blank boxes ids = fanned_blank (fan_in q boxes ids)

  listed_blank : (a : (Result Listing Refusal)) (boxes : List Float) (ids : List ℕ) → (listed_by a q boxes ids).answer ≡ Err NoListRoom → Blank (listed_by a q boxes ids)
  listed_blank (Ok a) boxes ids = staged_blank boxes _
  listed_blank (Err r) boxes ids = λ e. record { pts = refl; ids = refl }

  planned_blank : (p : Plan) (boxes : List Float) (a : (Result Listing Refusal)) (ids : List ℕ) → (planned p q boxes a ids).answer ≡ Err NoListRoom → Blank (planned p q boxes a ids)
  unfolding planned
  planned_blank Empty boxes a ids = λ e. seen_not e
  planned_blank Inside boxes a ids = λ e. seen_not e
  planned_blank (Query b) boxes a ids = listed_blank a boxes ids

  drawn_blank : (short : Bool) (p : Plan) (boxes : List Float) (a : (Result Listing Refusal)) (ids : List ℕ) → (drawn_of short p q boxes a ids).answer ≡ Err NoListRoom → Blank (drawn_of short p q boxes a ids)
  unfolding drawn_of
  drawn_blank short p boxes a ids = on_eight short (planned p q boxes a ids) (planned_blank p boxes a ids)

-- every work and output cell is zero
pub record Zero (l x : Lent) : Type 0 where
  pub floats : x.floats ≡ replicate (length l.floats) zero_f
  pub words : x.words ≡ replicate (length l.words) 0
  pub outline : x.outline ≡ replicate (length l.outline) zero_f
  pub visible : x.visible ≡ replicate (length l.visible) 0

module _ (site : Site) (t : Tables) (c : ViewCone) (tolerance : Float) (mode : ℕ) (k : Rooms) (l : Lent) where
  seen_zero : (c' : ViewCone) (x : Float) → (seen_from_of site t c' x mode k l).answer ≡ Err NoListRoom → Zero l (seen_from_of site t c' x mode k l).left
  unfolding seen_from_of
  seen_zero c' x e =
      let p = plan_of site.grid t.points t.boxes t.polygons t.starts t.items c' in
      let b = drawn_blank (request_of k t c' x mode l) (is_short k (length l.floats) (length l.words)) p t.boxes (look_in p site t k l).answer (look_in p site t k l).ids e in
      record { floats = refl; words = refl; outline = rw b.pts (padded_nil zero_f (length l.outline)); visible = rw b.ids (padded_nil 0 (length l.visible)) }

  few : (s i m : Bool) → tests s i m ≡ Err NoListRoom → ⊥
  few true true true e = cc
  few true true false e = cc
  few true false m e = cc
  few false i m e = cc

  admit_few : admit_of site t c mode (length l.marks) ≡ Err NoListRoom → ⊥
  unfolding admit_of asked
  admit_few = few (sound_of site t) (asked_in_domain c mode) (ltb (length l.marks) site.polygons)

  zero_by : (n : Result (Unit {0}) Refusal) → (n ≡ Err NoListRoom → ⊥) → (outcome_by n site t c tolerance mode k l).answer ≡ Err NoListRoom
      → Zero l (outcome_by n site t c tolerance mode k l).left
  zero_by (Ok u) h e = seen_zero (load_cone_of c) (load_of tolerance) e
  zero_by (Err r) h e = absurd (h (let z : r ≡ NoListRoom = cc in rw z))

  pub eight_zero : (outcome site t c tolerance mode k l).answer ≡ Err NoListRoom → Zero l (outcome site t c tolerance mode k l).left
  unfolding outcome
  eight_zero e = zero_by (admit_of site t c mode (length l.marks)) admit_few e

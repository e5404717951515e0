-- THE VISIBLE IDS OF AN ANSWER (`visible_named`): an outline call that is not refused was asked of sound tables, and the ids in front of its list are polygons
-- of the site, of three points or more, none of them twice. `empty_unseen`: so a polygon without points is never listed (document 02, Q-2). Assumes nothing.
use Rattle.std.proofs.Common.{Err, Result, Ok}
use mathlib.Core.Path.{◌≡◌, refl, sym, ap, ◌∙◌, subst}
use mathlib.Core.Bool.{Bool, true, false, cond}
use mathlib.Core.List.{List, [], ◌∷◌}
use Prim.Native.Nat.{ℕ, ◌+◌, ◌*◌, ◌≤◌, ◌<◌, min}
use native.Mathlib.Omega.{arith}
use lib.Dec.{ltb}
use lib.ListN.{length, get_or, take, length-take}
use lib.Seq.{take-append_seam, get_or-take}
use lib.Ieee.{Float}
use Rattle.lists.specs.Lists.{counting}
use Rattle.lists.specs.Members.{In, NoDup, All, AllBelow}
use Rattle.lists.specs.Parts.{padded}
use Rattle.lists.proofs.Counting.{nodup_counting, nodup_filter}
use Rattle.lists.proofs.Members.{all_in, in_all, at_all}
use Rattle.sorts.specs.Visible.{marked_of}
use Rattle.grid.specs.declared.Listing.{Listing}
use Rattle.site.specs.declared.Site.{Site}
use Rattle.site.specs.Tables.{Tables, first_of, len_of, owner_at}
use Rattle.site.specs.Domain.{load_of}
use Rattle.site.specs.Soundness.{Sound}
use Rattle.site.proofs.SoundLaws.{sound}
use Rattle.cone.specs.declared.ViewCone.{ViewCone}
use Rattle.cone.specs.Cone.{outline_of}
use Rattle.room.specs.declared.Rooms.{Rooms}
use Rattle.room.specs.declared.LocalEdge.{LocalEdge}
use Rattle.room.specs.Layout.{is_short}
use Rattle.fan.specs.Fan.{Fanned, is_over}
use Rattle.events.specs.Spots.{Spot}
use Rattle.refining.specs.Refine.{Run}
use Rattle.view.specs.declared.Plan.{Plan}
use Rattle.view.specs.declared.Plan.TheVariants.{Empty, Inside, Query}
use Rattle.stages.specs.declared.Shown.{Shown}
use Rattle.cone.specs.Domain.{load_cone_of}
use Rattle.visibility.specs.Asked.{admit_of}
use Rattle.view.specs.Post.{plan_of}
use Rattle.stages.specs.Drawing.{Request, view_in, Drawing, eight, plain, fan_in, spots_for, events_over, circle_by, rays_over, run_of, swept_of, spotted, fanned, staged_of}
use Rattle.stages.specs.Shows.{ids_in}
use Rattle.view.specs.Outcome.{Lent, look_of, listed_by, planned, drawn_of, request_of, look_in, seen_from_of}
use Rattle.visibility.specs.Outcome.{outcome_by, outcome}
use Rattle.view.proofs.Named.{ids_named, ids_cornered}
use Rattle.visibility.proofs.Admitting.{admitted_sound}
use Rattle.stages.proofs.Demand.{visible_owns, front_faces}
use Rattle.refusal.specs.declared.Refusal.{Refusal}
use Rattle.grid.specs.Query.{counted}

-- the ids are polygons of a sound site, of three points or more, each once
pub record Distinct (site : Site) (t : Tables) (ids : List ℕ) : Type 0 where
  pub sound : Sound site t
  pub once : NoDup ids
  pub named : AllBelow site.polygons ids
  pub cornered : All (λ id. 3 ≤ len_of t.polygons id) ids

-- ---- a drawing: as many ids as its answer says, each with P, each once
record Fair (P : ℕ → Type 0) (d : Drawing) : Type 0 where
  pub many : ids_in d.answer ≡ length d.ids
  pub once : NoDup d.ids
  pub named : All P d.ids

marked_once : (seen : List ℕ) → NoDup (marked_of seen)
unfolding marked_of
marked_once seen = nodup_filter (λ k. ltb 0 (get_or seen k 0)) (counting 0 (length seen)) (nodup_counting 0 (length seen))

module _ (P : ℕ → Type 0) where
  fair_eight : Fair P eight
  unfolding ids_in
  fair_eight = record { many = refl; once = tt; named = tt }

  fair_plain : (u v : Bool) → Fair P (plain u v)
  unfolding ids_in
  fair_plain u v = record { many = refl; once = tt; named = tt }

  either : (b : Bool) (x y : Drawing) → Fair P x → (b ≡ false → Fair P y) → Fair P (cond b x y)
  either true x y h g = h
  either false x y h g = g refl

  circle_fair : (c : ViewCone) (tolerance : Float) (candidates edges numbers : ℕ) → Fair P (circle_by c tolerance candidates edges numbers)
  unfolding circle_by ids_in
  circle_fair c tolerance candidates edges numbers = either (ltb numbers (2 * length (outline_of c tolerance))) eight _ fair_eight (λ _. record { many = refl; once = tt; named = tt })

  module _ (q : Request) where
    swept_fair : (candidates : ℕ) (es : List LocalEdge) (sp : List Spot) (run : Run) → (run.at.over ≡ false → All P (marked_of run.marks)) → Fair P (swept_of q candidates es sp run)
    unfolding swept_of ids_in
    swept_fair candidates es sp run h =
        either run.at.over eight _ fair_eight
        (λ o. either (ltb q.ids (length (marked_of run.marks))) eight _ fair_eight (λ _. record { many = refl; once = marked_once run.marks; named = h o }))

    module _ (es : List LocalEdge) (h : (sp : List Spot) → (run_of q es sp).at.over ≡ false → All P (marked_of (run_of q es sp).marks)) where
      spotted_fair : (candidates : ℕ) (sp : List Spot) → Fair P (spotted q candidates es sp)
      unfolding spotted
      spotted_fair candidates [] = circle_fair q.cone q.tolerance candidates (length es) q.numbers
      spotted_fair candidates (s ∷ l) =
          either (rays_over q.k (view_in q) es (s ∷ l)) eight (swept_of q candidates es (s ∷ l) (run_of q es (s ∷ l))) fair_eight
          (λ _. swept_fair candidates es (s ∷ l) (run_of q es (s ∷ l)) (h (s ∷ l)))

    fanned_fair : (g : Fanned) → ((sp : List Spot) → (run_of q g.edges sp).at.over ≡ false → All P (marked_of (run_of q g.edges sp).marks)) → Fair P (fanned q g)
    unfolding fanned
    fanned_fair g h =
        let d = spotted q g.candidates g.edges (spots_for (view_in q) g) in
        let e = cond (events_over q.k (view_in q) g) eight d in
        either (is_over q.k (length g.edges) (length g.events)) eight (cond g.touch (plain true (view_in q).full) e) fair_eight
        (λ _. either g.touch (plain true (view_in q).full) e (fair_plain true (view_in q).full)
        (λ _. either (events_over q.k (view_in q) g) eight d fair_eight (λ _. spotted_fair g.edges h g.candidates (spots_for (view_in q) g))))

-- ---- in a sound site: a visible id owns a front edge, which is an edge of a polygon that the box query listed; so it is that polygon
module _ (site : Site) (t : Tables) (S : Sound site t) (c : ViewCone) (tolerance : Float) (mode : ℕ) (k : Rooms) (l : Lent) where
  module _ (P : ℕ → Type 0) (below : (x : ℕ) → P x → x < site.polygons) where
    run_named : (boxes : List Float) (ids : List ℕ) → All P ids → (sp : List Spot)
        → (run_of (request_of k t c tolerance mode l) (fan_in (request_of k t c tolerance mode l) boxes ids).edges sp).at.over ≡ false
        → All P (marked_of (run_of (request_of k t c tolerance mode l) (fan_in (request_of k t c tolerance mode l) boxes ids).edges sp).marks)
    run_named boxes ids h sp o =
        let q = request_of k t c tolerance mode l in
        let es = (fan_in q boxes ids).edges in
        in_all P (marked_of (run_of q es sp).marks)
        (λ id i.
        let w = visible_owns q es sp o id i in
        let f = front_faces q boxes ids w.front w.listed in
        let p = all_in P ids f.polygon h f.listed in
        let e : w.edge ≡ first_of t.polygons f.polygon + f.i = sym w.number ∙ f.number in
        let z : id ≡ f.polygon = sym w.owner ∙ ap (owner_at t.owners) e ∙ S.one_owner f.polygon f.i (below f.polygon p) f.below in
        subst P (sym z) p)

    listed_fair : (a : (Result Listing Refusal)) (boxes : List Float) (ids : List ℕ) → ((n read j : ℕ) → a ≡ counted n read → j < n → P (get_or ids j 0))
        → Fair P (listed_by a (request_of k t c tolerance mode l) boxes ids)
    unfolding staged_of
    listed_fair (Err r) boxes ids h = fair_eight P
    listed_fair (Ok a) boxes ids h =
        let q = request_of k t c tolerance mode l in
        let n = a.written in
        let b : All P (take n ids) = at_all P (take n ids) 0 (λ i g. let j : i < n = omega (arith, length-take n ids) in rw get_or-take (h n a.read i refl j)) in
        fanned_fair P q (fan_in q boxes (take n ids)) (run_named boxes (take n ids) b)

  -- a polygon of the site, of three points or more
  abbrev Right : ℕ → Type 0
  Right id = (id < site.polygons) × (3 ≤ len_of t.polygons id)

  planned_fair : (p : Plan) → Fair Right (planned p (request_of k t c tolerance mode l) t.boxes (look_in p site t k l).answer (look_in p site t k l).ids)
  unfolding planned look_of
  planned_fair Empty = fair_plain Right false _
  planned_fair Inside = fair_plain Right true _
  planned_fair (Query b) =
      listed_fair Right (λ x r. r.0) (look_in (Query b) site t k l).answer t.boxes (look_in (Query b) site t k l).ids
      (λ n read j e h. (ids_named site t S b l.marks l.epoch (min k.ids (length l.words)) n read j e h, ids_cornered site t S b l.marks l.epoch (min k.ids (length l.words)) n read j e h))

  drawn_fair : (short : Bool) (p : Plan) → Fair Right (drawn_of short p (request_of k t c tolerance mode l) t.boxes (look_in p site t k l).answer (look_in p site t k l).ids)
  unfolding drawn_of
  drawn_fair short p = either Right short eight _ (fair_eight Right) (λ _. planned_fair p)

  -- the ids stand in front of the slice
  front : (d : Drawing) → Fair Right d → Distinct site t (take (ids_in d.answer) (padded 0 (length l.visible) d.ids))
  front d f =
      rw (f.many, take-append_seam d.ids _) (record {
        sound = S;
        once = f.once;
        named = in_all (λ (x : ℕ). x < site.polygons) d.ids (λ x i. (all_in Right d.ids x f.named i).0);
        cornered = in_all (λ (x : ℕ). 3 ≤ len_of t.polygons x) d.ids (λ x i. (all_in Right d.ids x f.named i).1);
      })

  seen_distinct : Distinct site t (take (ids_in (seen_from_of site t c tolerance mode k l).answer) (seen_from_of site t c tolerance mode k l).left.visible)
  unfolding seen_from_of
  seen_distinct =
      let p = plan_of site.grid t.points t.boxes t.polygons t.starts t.items c in
      let short = is_short k (length l.floats) (length l.words) in
      front (drawn_of short p (request_of k t c tolerance mode l) t.boxes (look_in p site t k l).answer (look_in p site t k l).ids) (drawn_fair short p)

-- ---- of the call
module _ (site : Site) (t : Tables) (c : ViewCone) (tolerance : Float) (mode : ℕ) (k : Rooms) (l : Lent) (s : Shown) where
  named_by : (n : Result (Unit {0}) Refusal) → n ≡ admit_of site t c mode (length l.marks) → (outcome_by n site t c tolerance mode k l).answer ≡ Ok s
      → Distinct site t (take s.visible (outcome_by n site t c tolerance mode k l).left.visible)
  unfolding ids_in
  named_by (Ok u) e h =
      let S = sound site t (admitted_sound site t c mode (length l.marks) (sym e)) in
      let o = seen_from_of site t (load_cone_of c) (load_of tolerance) mode k l in
      subst (λ (m : ℕ). Distinct site t (take m o.left.visible)) (ap ids_in h) (seen_distinct site t S (load_cone_of c) (load_of tolerance) mode k l)
  named_by (Err r) e h = cc

  -- WHAT IS ANSWERED IS OF A SOUND SITE, and its ids are polygons of it, each once
  pub visible_named : (outcome site t c tolerance mode k l).answer ≡ Ok s → Distinct site t (take s.visible (outcome site t c tolerance mode k l).left.visible)
  unfolding outcome
  visible_named h = named_by (admit_of site t c mode (length l.marks)) refl h

  -- A POLYGON WITHOUT POINTS IS NEVER LISTED, nor is one of fewer than three
  pub empty_unseen : (outcome site t c tolerance mode k l).answer ≡ Ok s → (id : ℕ) → In id (take s.visible (outcome site t c tolerance mode k l).left.visible) → 3 ≤ len_of t.polygons id
  empty_unseen h id i = all_in (λ (x : ℕ). 3 ≤ len_of t.polygons x) (take s.visible (outcome site t c tolerance mode k l).left.visible) id (visible_named h).cornered i

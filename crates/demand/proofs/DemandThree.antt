-- DEMAND 3, SENTENCE BY SENTENCE. "Take a site built here and unaltered since" (`BuiltHere`), "and stamps begun empty, always lent whole and touched by our
-- queries alone" (any list of calls over `begun n`). `both_engines` (document 02, Q-6): a box query that is not refused, by the grid's tables or by the points and polygons
-- alone, lists the polygons whose cells meet the box's cells by first shared cell and then id, with one count of entries. So any two of them have the same list and count
-- (`same_list`), and in the same room they are refused as 8 alike (`same_outcome`). `every_box_query`, a corollary of it for either engine, and `every_inner_query`: a box
-- query that is not refused lists each polygon whose cells meet the box's cells, once, and no other, and its reported count is exactly the entries that those cells hold.
-- `single_ray`: in either mode a ray enters no cell twice and at most columns plus rows less one. `both_ray_modes`: the two modes differ in the edge alone.
-- `every_visible_id`: in mode 0 each visible id listed owns an edge facing the post that a cast returned. `every_sample_owner`: the owner of every edge that a sample ray's
-- cast returned is listed. `every_tied_id`, `every_tied_owner`: the same of ties (document 02, Q-3), of edges that a cast tested at exactly the distance that it answered.
-- `few_events`, `few_rays`: E is at most 2 F + 2, and S at most 2 E + 2. Beside it `never_six`, `never_six_plain` and `never_six_outline`: no question and no outline of such a
-- site is refused as 6. Assumes nothing.
use Rattle.std.proofs.Common.{None, Ok, Option}
use mathlib.Core.Path.{◌≡◌, ◌∙◌, sym, subst}
use mathlib.Core.Bool.{true, false}
use mathlib.Core.List.{List}
use Prim.Native.Nat.{ℕ, ◌+◌, ◌*◌, ◌≤◌, min}
use lib.ListN.{length, take}
use lib.Ieee.{Float}
use Rattle.geom.specs.declared.Aabb.{Aabb}
use Rattle.grid.specs.Query as query
use Rattle.site.specs.declared.Site.{Site}
use Rattle.site.specs.Tables.{Tables, owner_at}
use Rattle.site.specs.Domain.{box_in_domain, load_box_of, load_point_of}
use Rattle.site.specs.Soundness.{Sound}
use Rattle.site.proofs.SoundLaws.{sound}
use Rattle.site.proofs.PlainLaws.{sound_plain_lem}
use Rattle.near.specs.Outcome.{plain_of}
use Rattle.near.proofs.Refusing.{plain_exactly}
use Rattle.cone.specs.declared.ViewCone.{ViewCone}
use Rattle.room.specs.declared.Rooms.{Rooms}
use Rattle.cone.specs.Domain.{load_cone_of}
use Rattle.visibility.specs.Asked.{admit_of}
use Rattle.view.specs.Outcome.{Lent, lent}
use Rattle.visibility.specs.Outcome.{outcome}
use Rattle.lists.specs.Members.{In}
use Rattle.geom.specs.declared.Vec2.{Vec2}
use Rattle.sight.specs.Holding.{polygon_at_of}
use Rattle.cone.specs.Cone.{view_of, aabb_of}
use Rattle.room.specs.declared.LocalEdge.{LocalEdge}
use Rattle.room.specs.declared.Sample.{Sample}
use Rattle.stages.specs.declared.Shown.{Shown}
use Rattle.view.specs.Post.{is_empty}
use native.Mathlib.Nat.{le_trans, le_of_eq}
use Rattle.build.specs.Outcome as building
use Rattle.build.proofs.BuiltSound.{built_sound}
use Rattle.build.proofs.BuiltIndex.{built_query}
use Rattle.random.specs.Draws.{points_of, lens_of}
use Rattle.random.proofs.RandomSound.{random_built}
use Rattle.scene.specs.Answers.{seen, cast_ray_of}
use Rattle.scene.proofs.NeverSix.{NeverSix, not_six, sound_never_six}
use Rattle.scene.proofs.Seen.{without_edge, seen_counted, seen_once, ray_modes}
use Rattle.visibility.proofs.Admitting.{admitted_marked}
use Rattle.demand.proofs.Calls.{calls_kept}
use Rattle.demand.proofs.RefusedWhen.{outline_exactly}
use Rattle.demand.proofs.Outlines.{inner_is, outline_holds}
use Rattle.demand.proofs.Engines.{Marked, marked, let_through, near_outcome, lists_near, listed_near, lists_by, engine_is, near_lists}
use Rattle.demand.specs.Calls.{Stamps, begun, lent_with, Call, after_all}
use Rattle.demand.specs.Sweeps.{inner_of, Sweep, sweep_in, samples_in, refined_in, tied_in, CastReturned, CastTested, CountsOf, OwnsFacing}
use Rattle.demand.specs.Demands.{BuiltHere, BoxLists, RayEnters, by_new, by_random}
use Rattle.demand.specs.Engines.{Engine, near_by, near_in, ListsNear}
use Rattle.grid.specs.Query.{counted}
use Rattle.site.specs.Hits.{hit_at}
use Rattle.site.specs.declared.RayHit.{RayHit}
use Rattle.refusal.specs.Numbers.{status_of}

-- either way it is building that made it
record Made (s : Site) (t : Tables) : Type 0 where
  pub width : Float
  pub height : Float
  pub given : List Float
  pub lens : List ℕ
  pub lent : Tables
  pub does : building.Does (building.outcome width height given lens lent) (Ok s) t

made_so : (s : Site) (t : Tables) → BuiltHere s t → Made s t
made_so s t (by_new width height given lens lent d) = record { width = width; height = height; given = given; lens = lens; lent = lent; does = d }
made_so s t (by_random config lent d) =
    record { width = config.width; height = config.height; given = points_of config; lens = lens_of config; lent = lent; does = random_built config lent t s d }

module _ (s : Site) (t : Tables) (built : BuiltHere s t) where
  -- ---- BOX QUERIES. "stamps begun empty, always lent whole and touched by our queries alone": n marks, after any calls
  module _ (n : ℕ) (calls : List Call) where
    abbrev now : Stamps
    now = after_all calls (begun n)

    -- whichever engine is asked, in whatever room: one outcome, with a box in the domain and a mark for each polygon
    engine : (e : Engine) (b : Aabb) (room : List ℕ) → box_in_domain b ≡ true → Marked e s now → near_by e s t b now room ≡ near_outcome s t b (length room)
    engine e b room i l = let w = made_so s t built in engine_is w.width w.height w.given w.lens w.lent t s w.does b now room i e l (calls_kept n calls).fresh

    -- DOCUMENT 02, Q-6, said once of both engines: what is not refused is the list by first shared cell and then id, zeros after it, and its count of entries
    pub both_engines : (e : Engine) (b : Aabb) (room : List ℕ) (m count : ℕ) → (near_by e s t b now room).answer ≡ counted m count → ListsNear s t b (length room) (near_by e s t b now room)
    both_engines e b room m count a =
        let i = let_through e s t b now room m count a in
        lists_near s t b (length room) (near_by e s t b now room) (engine e b room i.0 i.1) m count a

    -- in the same room they are refused as 8 alike, and then too leave the same
    pub same_outcome : (e f : Engine) (b : Aabb) (room : List ℕ) → box_in_domain b ≡ true → s.polygons ≤ n → near_by e s t b now room ≡ near_by f s t b now room
    same_outcome e f b room i l =
        let h : s.polygons ≤ length now.marks = le_trans l (le_of_eq (sym (calls_kept n calls).long)) in
        engine e b room i (marked e s now h) ∙ sym (engine f b room i (marked f s now h))

    -- "Every box query not refused lists each polygon whose cells meet the box's cells, once, and no other, and its reported count is exactly the entries
    -- those cells hold": of either engine
    pub every_box_query : (e : Engine) (b : Aabb) (room : List ℕ) (m count : ℕ) → (near_by e s t b now room).answer ≡ counted m count
        → BoxLists s t (load_box_of b) (take m (near_by e s t b now room).ids) count
    every_box_query e b room m count a =
        let w = made_so s t built in
        let x = listed_near s t b (length room) (near_by e s t b now room) m count a (both_engines e b room m count a) in
        subst (λ (l : List ℕ). BoxLists s t (load_box_of b) l count) (sym x.0)
        (subst (λ (c : ℕ). BoxLists s t (load_box_of b) (near_in s t b) c) (sym x.1) (near_lists w.width w.height w.given w.lens w.lent t s w.does b))

    -- the same of the box query that an outline call makes itself, where it is not refused before, its view is not empty and its post lies in no polygon
    module _ (c : ViewCone) (mode : ℕ) (k : Rooms) (floats : List Float) (words : List ℕ) (outline : List Float) (visible : List ℕ) where
      abbrev inner : query.Outcome
      inner = inner_of s t c k (lent_with now floats words outline visible)

      pub every_inner_query : admit_of s t c mode (length now.marks) ≡ Ok tt → is_empty (view_of (load_cone_of c)) ≡ false
          → polygon_at_of s.grid t.points t.boxes t.polygons t.starts t.items (load_cone_of c).origin ≡ None
          → (m count : ℕ) → inner.answer ≡ counted m count → BoxLists s t (aabb_of (load_cone_of c)) (take m inner.ids) count
      every_inner_query z v p m count e =
          let w = made_so s t built in
          let room = min k.ids (length words) in
          lists_by s t (aabb_of (load_cone_of c)) room inner
          (rw (inner_is s t c k (lent_with now floats words outline visible) v p)
          (built_query w.width w.height w.given w.lens w.lent t s w.does (aabb_of (load_cone_of c)) now.marks now.epoch room (admitted_marked s t c mode (length now.marks) z) (calls_kept n calls).fresh)) m count e

  -- Q-6 again: "where neither refuses, its list equals the grid's, order included, and its count of entries equals the count the grid reports"; each in room of its own and
  -- after calls of its own
  pub same_list : (n n' : ℕ) (calls calls' : List Call) (e f : Engine) (b : Aabb) (room room' : List ℕ) (m count m' count' : ℕ)
      → (near_by e s t b (after_all calls (begun n)) room).answer ≡ counted m count → (near_by f s t b (after_all calls' (begun n')) room').answer ≡ counted m' count'
      → (take m (near_by e s t b (after_all calls (begun n)) room).ids ≡ take m' (near_by f s t b (after_all calls' (begun n')) room').ids) × (count ≡ count')
  same_list n n' calls calls' e f b room room' m count m' count' p q =
      let x = listed_near s t b (length room) (near_by e s t b (after_all calls (begun n)) room) m count p (both_engines n calls e b room m count p) in
      let y = listed_near s t b (length room') (near_by f s t b (after_all calls' (begun n')) room') m' count' q (both_engines n' calls' f b room' m' count' q) in
      (x.0 ∙ sym y.0, x.1 ∙ sym y.1)

  -- ---- RAYS. "A single ray enters no cell twice and at most columns plus rows less one"
  pub single_ray : (o v : Vec2) (len : Float) (mode : ℕ) (hit : Option RayHit) (count : ℕ) → cast_ray_of s t o v len mode ≡ seen hit count → RayEnters s t o v len mode count
  single_ray o v len mode hit count e =
      let n = seen_counted s t o v len mode hit count e in
      let w = seen_once s t o v len mode in
      record { counted = n; no_cell_twice = w.distinct; at_most = le_trans (le_of_eq n) w.few }

  -- document 02, Q-3: mode 1 answers what mode 0 does but for the edge, the number of cells too
  pub both_ray_modes : (o v : Vec2) (len : Float) → without_edge (cast_ray_of s t o v len 0) ≡ without_edge (cast_ray_of s t o v len 1)
  both_ray_modes o v len = ray_modes s t o v len

  -- ---- OUTLINES. A call that is not refused, whatever it is lent
  module _ (c : ViewCone) (tolerance : Float) (mode : ℕ) (k : Rooms) (l : Lent) (x : Shown) (seen : (outcome s t c tolerance mode k l).answer ≡ Ok x) where
    -- the visible ids that it lists, and its own sweep
    abbrev pub visible_ids : List ℕ
    visible_ids = take x.visible (outcome s t c tolerance mode k l).left.visible

    abbrev pub own_sweep : Sweep
    own_sweep = sweep_in s t c tolerance mode k l

    -- in the Rust's mode: "Every visible id listed owns an edge facing the post that a cast returned, ..
    pub every_visible_id : mode ≡ 0 → (id : ℕ) → In id visible_ids → OwnsFacing s t (load_point_of c.origin) (CastReturned own_sweep) id
    every_visible_id = (outline_holds s t c tolerance mode k l x seen).returned

    -- .. and the owner of every edge that a sample ray's cast returned is listed; ..
    pub every_sample_owner : (a : Sample) → In a (samples_in own_sweep) → (u : Float) (e : ℕ) → a.hit ≡ hit_at u e → In (owner_at t.owners e) visible_ids
    every_sample_owner = (outline_holds s t c tolerance mode k l x seen).listed

    -- with ties credited (document 02, Q-3), and in the Rust's mode too: "in place of demand 3's edge that a cast returned, each visible id owns a front edge that a cast
    -- tested at exactly the distance it answered, ..
    pub every_tied_id : (id : ℕ) → In id visible_ids → OwnsFacing s t (load_point_of c.origin) (CastTested own_sweep) id
    every_tied_id = (outline_holds s t c tolerance mode k l x seen).owns

    -- .. and every polygon owning an edge so tested by a sample ray's cast is listed": in mode 1
    pub every_tied_owner : mode ≡ 1 → (a : Sample) → In a (samples_in own_sweep) → (u : Float) (e : ℕ) → a.hit ≡ hit_at u e
        → (y : LocalEdge) → In y (tied_in own_sweep a.angle u) → In (owner_at t.owners y.edge) visible_ids
    every_tied_owner = (outline_holds s t c tolerance mode k l x seen).tied

    -- .. front edges F, merged events E and sample rays cast S keep E at most 2F + 2 ..
    pub few_events : x.events ≤ 2 * x.front_edges + 2
    few_events = (outline_holds s t c tolerance mode k l x seen).events_few

    -- .. and S at most 2E + 2"
    pub few_rays : x.rays_cast ≤ 2 * x.events + 2
    few_rays = (outline_holds s t c tolerance mode k l x seen).rays_few

    -- the counts are those of what the sweep goes by: F its front edges, E its merged events, S its samples; and so of the rays of refining
    pub all_counted : CountsOf own_sweep x
    all_counted = (outline_holds s t c tolerance mode k l x seen).counts

    pub all_samples : x.rays_cast ≡ length (samples_in own_sweep)
    all_samples = (outline_holds s t c tolerance mode k l x seen).rays

    pub all_refined : x.refinements ≡ length (refined_in own_sweep)
    all_refined = (outline_holds s t c tolerance mode k l x seen).refined

  -- ---- "a built or random site is never refused as 6": no question of it, and no outline
  pub tables_sound : Sound s t
  tables_sound = let w = made_so s t built in sound s t (built_sound w.width w.height w.given w.lens w.lent t s w.does)

  pub never_six : NeverSix s t
  never_six = sound_never_six s t tables_sound

  pub never_six_plain : (b : Aabb) (ids : List ℕ) → status_of (plain_of s t.points t.polygons b ids).answer ≡ 6 → ⊥
  never_six_plain b ids e = (plain_exactly s t.points t.polygons b ids).only 6 e (sound_plain_lem s t tables_sound)

  pub never_six_outline : (c : ViewCone) (tolerance : Float) (mode : ℕ) (k : Rooms) (l : Lent) → status_of (outcome s t c tolerance mode k l).answer ≡ 6 → ⊥
  never_six_outline c tolerance mode k l = not_six s t tables_sound (outline_exactly s t c tolerance mode k l)

-- DEMAND 3 OF AN OUTLINE, at the call: `outline_holds`. Of every call that is not refused: each id listed owns an edge that faces the post and that a cast of this
-- call's own sweep returned; the owner of every edge that a sample's cast returned is listed; and the counts keep their bounds. Assumes nothing.
use Rattle.std.proofs.Common.{None, Err, Result, Ok}
use mathlib.Core.Path.{◌≡◌, refl, ◌∙◌, sym, ap, subst}
use mathlib.Core.Bool.{Bool, true, false, cond}
use mathlib.Core.List.{List, [], ◌∷◌, map}
use Prim.Native.Nat.{ℕ, ◌+◌, ◌*◌, ◌%◌, ◌≤◌, ◌<◌, min}
use lib.Dec.{ltb}
use lib.ListN.{length, get_or, take, length-take, length-map}
use lib.Ieee.{Float, lt, le}
use Rattle.geom.specs.declared.Aabb.{Aabb}
use Rattle.grid.specs.Query as query
use Rattle.site.specs.declared.Site.{Site}
use Rattle.site.specs.Tables.{Tables, first_of, len_of, point_at, owner_at, edge_end_of, edge_of}
use Rattle.site.specs.Domain.{load_of, point_in_domain, load_point_of}
use Rattle.cone.specs.declared.ViewCone.{ViewCone}
use Rattle.room.specs.declared.Rooms.{Rooms}
use Rattle.view.specs.declared.Plan.{Plan}
use Rattle.view.specs.declared.Plan.TheVariants.{Empty, Inside, Query}
use Rattle.cone.specs.Domain.{load_cone_of, cone_in_domain}
use Rattle.visibility.specs.Asked.{admit_of}
use Rattle.view.specs.Post.{plan_of, is_empty}
use Rattle.view.specs.Outcome.{Lent, look_of, seen_from_of, listed_by, planned, drawn_of, request_of, look_in}
use Rattle.visibility.specs.Outcome.{outcome_by, outcome}
use mathlib.Core.Logic.{inr, inl, ⊎_elim}
use native.Mathlib.Omega.{arith}
use lib.Seq.{take-append_seam, get_or-take}
use Rattle.num.specs.Ops.{zero_f}
use Rattle.lists.specs.Members.{In, AllBelow}
use Rattle.lists.specs.Parts.{padded}
use Rattle.lists.proofs.AllTo.{both}
use Rattle.lists.proofs.Members.{all_in, at_all}
use Rattle.sorts.specs.Visible.{marked_of}
use Rattle.sorts.specs.Sort.{sort}
use Rattle.sorts.specs.By.{in_order}
use Rattle.sorts.proofs.Merging.{length_sort}
use Rattle.bounds.specs.Domain.{in_domain}
use Rattle.geom.specs.declared.Vec2.{Vec2}
use Rattle.grid.specs.declared.Listing.{Listing}
use Rattle.site.specs.Soundness.{Sound}
use Rattle.site.proofs.SoundLaws.{sound, end_below}
use Rattle.build.proofs.Loading.{load_domain}
use Rattle.sight.specs.Holding.{polygon_at_of}
use Rattle.cone.specs.declared.View.{View}
use Rattle.cone.specs.Cone.{view_of, aabb_of, outline_of}
use Rattle.room.specs.declared.LocalEdge.{LocalEdge}
use Rattle.room.specs.declared.Sample.{Sample}
use Rattle.room.specs.Layout.{is_short}
use Rattle.fan.specs.Sides.{facing}
use Rattle.fan.specs.Fan.{Fanned, is_over}
use Rattle.events.specs.Spots.{Spot}
use Rattle.index.specs.Angular.{Index}
use Rattle.rays.specs.Samples.{cast_ray, earlier, ordered_of, rays_cast}
use Rattle.stages.specs.declared.Shown.{Shown}
use Rattle.stages.specs.Drawing.{Request, view_in, Drawing, eight, plain, fan_in, spots_for, events_over, circle_by, samples_for, rays_for, index_for, rays_over, run_of, swept_of, spotted, fanned, staged_of}
use Rattle.view.proofs.Named.{ids_named}
use Rattle.view.proofs.Asking.{plan_query}
use Rattle.visibility.proofs.Admitting.{admitted_sound, admitted_inside}
use Rattle.stages.proofs.Counts.{events_most, rays_most}
use Rattle.stages.proofs.Demand.{run_casts, Tested, tested_listed, sample_front, visible_owns, rust_returned, samples_listed, ties_listed, front_faces}
use Rattle.demand.proofs.Facing.{faces_below, edge_end}
use Rattle.demand.specs.Sweeps.{inner_of, Sweep, still, sweeps, spotted_sweep, fanned_sweep, listed_sweep, planned_sweep, seen_sweep, sweep_in, samples_in, refined_in, tied_in, CastReturned, CastTested, CountsOf, OwnsFacing}
use Rattle.refusal.specs.declared.Refusal.{Refusal}
use Rattle.grid.specs.Query.{counted}
use Rattle.site.specs.Hits.{hit_at}

module _ (site : Site) (t : Tables) (c : ViewCone) (k : Rooms) (l : Lent) where
  -- where the view is not empty and the post lies in no polygon, it is the grid's query with the cone's box
  pub inner_is : is_empty (view_of (load_cone_of c)) ≡ false → polygon_at_of site.grid t.points t.boxes t.polygons t.starts t.items (load_cone_of c).origin ≡ None
      → inner_of site t c k l ≡ query.outcome site.grid (aabb_of (load_cone_of c)) t.starts t.items l.marks l.epoch (min k.ids (length l.words))
  unfolding inner_of look_of
  inner_is e p = ap (λ (x : Plan). look_in x site t k l) (sym (plan_query site.grid t.points t.boxes t.polygons t.starts t.items (load_cone_of c) e (sym p) refl refl))

  -- it is the call's own: the stamps that a call leaves, unless it is refused before it, are those that the query leaves
  left_by : (tolerance : Float) (mode : ℕ) (n : Result (Unit {0}) Refusal) → n ≡ Ok tt
      → ((outcome_by n site t c tolerance mode k l).left.marks ≡ (inner_of site t c k l).marks) × ((outcome_by n site t c tolerance mode k l).left.epoch ≡ (inner_of site t c k l).epoch)
  unfolding seen_from_of inner_of
  left_by tolerance mode n z = rw z (refl, refl)

  pub inner_left : (tolerance : Float) (mode : ℕ) → admit_of site t c mode (length l.marks) ≡ Ok tt
      → ((outcome site t c tolerance mode k l).left.marks ≡ (inner_of site t c k l).marks) × ((outcome site t c tolerance mode k l).left.epoch ≡ (inner_of site t c k l).epoch)
  unfolding outcome
  inner_left tolerance mode z = left_by tolerance mode (admit_of site t c mode (length l.marks)) z

-- the answer s with the list ids, of a call in a mode whose post is o and whose sweep is w
pub record OutlineHolds (site : Site) (t : Tables) (o : Vec2) (mode : ℕ) (w : Sweep) (s : Shown) (ids : List ℕ) : Type 0 where
  pub many : s.visible ≡ length ids
  pub owns : (id : ℕ) → In id ids → OwnsFacing site t o (CastTested w) id
  pub returned : mode ≡ 0 → (id : ℕ) → In id ids → OwnsFacing site t o (CastReturned w) id
  pub listed : (a : Sample) → In a (samples_in w) → (u : Float) (e : ℕ) → a.hit ≡ hit_at u e → In (owner_at t.owners e) ids
  pub tied : mode ≡ 1 → (a : Sample) → In a (samples_in w) → (u : Float) (e : ℕ) → a.hit ≡ hit_at u e → (y : LocalEdge) → In y (tied_in w a.angle u) → In (owner_at t.owners y.edge) ids
  pub events_few : s.events ≤ 2 * s.front_edges + 2
  pub rays_few : s.rays_cast ≤ 2 * s.events + 2
  -- F and E are the lengths of the sweep's lists; the rays counted are those samples, and the casts of refining those angles
  pub counts : CountsOf w s
  pub rays : s.rays_cast ≡ length (samples_in w)
  pub refined : s.refinements ≡ length (refined_in w)

-- ---- from the stages to the call: what holds of a refusal as 8, of the plain answers, of a circle and of a sweep holds of every drawing
abbrev swept_from : Request → List Float → List ℕ → Drawing
swept_from q boxes ids =
    swept_of q (fan_in q boxes ids).candidates (fan_in q boxes ids).edges (spots_for (view_in q) (fan_in q boxes ids)) (run_of q (fan_in q boxes ids).edges (spots_for (view_in q) (fan_in q boxes ids)))

abbrev sweep_from : Request → List Float → List ℕ → Sweep
sweep_from q boxes ids = sweeps q (fan_in q boxes ids).edges (spots_for (view_in q) (fan_in q boxes ids))

module _ (P : Drawing → Sweep → Type 0) (on_eight : (w : Sweep) → P eight w) (on_plain : (u v : Bool) → P (plain u v) (still [])) where
  either : (b : Bool) (y : Drawing) (w : Sweep) → (b ≡ false → P y w) → P (cond b eight y) w
  either true y w h = on_eight w
  either false y w h = h refl

  touched : (b v : Bool) (y : Drawing) (w : Sweep) → P y w → P (cond b (plain true v) y) (cond b (still []) w)
  touched true v y w h = on_plain true v
  touched false v y w h = h

  module _ (q : Request) (on_circle : (candidates : ℕ) (es : List LocalEdge) → P (circle_by q.cone q.tolerance candidates (length es) q.numbers) (still es)) where
    spotted_by : (candidates : ℕ) (es : List LocalEdge) (sp : List Spot) → P (swept_of q candidates es sp (run_of q es sp)) (sweeps q es sp) → P (spotted q candidates es sp) (spotted_sweep q es sp)
    unfolding spotted
    spotted_by candidates es [] h = on_circle candidates es
    spotted_by candidates es (s ∷ l) h =
        either (rays_over q.k (view_in q) es (s ∷ l)) (swept_of q candidates es (s ∷ l) (run_of q es (s ∷ l))) (sweeps q es (s ∷ l)) (λ _. h)

    fanned_by : (g : Fanned) → P (swept_of q g.candidates g.edges (spots_for (view_in q) g) (run_of q g.edges (spots_for (view_in q) g))) (sweeps q g.edges (spots_for (view_in q) g))
        → P (fanned q g) (fanned_sweep q g)
    unfolding fanned
    fanned_by g h =
        let d = spotted q g.candidates g.edges (spots_for (view_in q) g) in
        let w = spotted_sweep q g.edges (spots_for (view_in q) g) in
        let e = cond (events_over q.k (view_in q) g) eight d in
        either (is_over q.k (length g.edges) (length g.events)) (cond g.touch (plain true (view_in q).full) e) (cond g.touch (still []) w)
        (λ _. touched g.touch (view_in q).full e w
        (either (events_over q.k (view_in q) g) d w (λ _. spotted_by g.candidates g.edges (spots_for (view_in q) g) h)))

    listed_by_lem : (a : Result Listing Refusal) (boxes : List Float) (ids : List ℕ) → ((n read : ℕ) → a ≡ counted n read → P (swept_from q boxes (take n ids)) (sweep_from q boxes (take n ids)))
        → P (listed_by a q boxes ids) (listed_sweep a q boxes ids)
    unfolding staged_of
    listed_by_lem (Ok a) boxes ids h = fanned_by (fan_in q boxes (take a.written ids)) (h a.written a.read refl)
    listed_by_lem (Err r) boxes ids h = on_eight (still [])

    planned_by : (p : Plan) (boxes : List Float) (a : Result Listing Refusal) (ids : List ℕ)
        → ((b : Aabb) → p ≡ Query b → (n read : ℕ) → a ≡ counted n read → P (swept_from q boxes (take n ids)) (sweep_from q boxes (take n ids)))
        → P (planned p q boxes a ids) (planned_sweep p q boxes a ids)
    unfolding planned
    planned_by Empty boxes a ids h = on_plain false (view_in q).full
    planned_by Inside boxes a ids h = on_plain true (view_in q).full
    planned_by (Query b) boxes a ids h = listed_by_lem a boxes ids (h b refl)

    drawn_by : (short : Bool) (p : Plan) (boxes : List Float) (a : Result Listing Refusal) (ids : List ℕ)
        → ((b : Aabb) → p ≡ Query b → (n read : ℕ) → a ≡ counted n read → P (swept_from q boxes (take n ids)) (sweep_from q boxes (take n ids)))
        → P (drawn_of short p q boxes a ids) (planned_sweep p q boxes a ids)
    unfolding drawn_of
    drawn_by short p boxes a ids h = either short (planned p q boxes a ids) (planned_sweep p q boxes a ids) (λ _. planned_by p boxes a ids h)

-- ---- the answers
-- as many rays as samples
rays_many : (v : View) (x : Index) (l : List Sample) → length (rays_cast v x l) ≡ length l
unfolding rays_cast ordered_of
rays_many v x l = length-map (ordered_of l) (cast_ray v x) ∙ by (in_order (map (λ s. s.angle) l))
  where
    by : (b : Bool) → length (cond b l (sort earlier l)) ≡ length l
    by true = refl
    by false = length_sort earlier l

module _ (site : Site) (t : Tables) (o : Vec2) (mode : ℕ) where
  -- what an answer with its list says
  abbrev Says : Drawing → Sweep → Type 0
  Says d w = (s : Shown) → d.answer ≡ Ok s → OutlineHolds site t o mode w s d.ids

  told : {w : Sweep} {x s : Shown} {ids : List ℕ} → ◌≡◌ {A = Result Shown Refusal} (Ok x) (Ok s) → OutlineHolds site t o mode w x ids → OutlineHolds site t o mode w s ids
  told {w} {x} {s} {ids} e h = let z : x ≡ s = cc in subst (λ (y : Shown). OutlineHolds site t o mode w y ids) z h

  says_eight : (w : Sweep) → Says eight w
  says_eight w s e = cc

  says_plain : (u v : Bool) → Says (plain u v) (still [])
  says_plain u v s e =
      told e (record { many = refl; owns = λ id i. absurd i; returned = λ z id i. absurd i; listed = λ a i. absurd i; tied = λ z a i. absurd i; events_few = omega arith; rays_few = omega arith; counts = (refl, refl); rays = refl; refined = refl })

  says_circle : (c : ViewCone) (tolerance : Float) (candidates : ℕ) (es : List LocalEdge) (numbers : ℕ) → Says (circle_by c tolerance candidates (length es) numbers) (still es)
  unfolding circle_by
  says_circle c tolerance candidates es numbers =
      either Says says_eight says_plain (ltb numbers (2 * length (outline_of c tolerance))) _ (still es)
      (λ _ s e. told e (record { many = refl; owns = λ id i. absurd i; returned = λ z id i. absurd i; listed = λ a i. absurd i; tied = λ z a i. absurd i; events_few = omega arith; rays_few = omega arith; counts = (refl, refl); rays = refl; refined = refl }))

-- ---- in a sound site, from a post in the domain
module _ (site : Site) (t : Tables) (S : Sound site t) (c : ViewCone) (O : point_in_domain c.origin ≡ true) (tolerance : Float) (mode : ℕ) (k : Rooms) (l : Lent) where
  abbrev q : Request
  q = request_of k t c tolerance mode l

  module _ (ids : List ℕ) (named : AllBelow site.polygons ids) where
    abbrev es : List LocalEdge
    es = (fan_in q t.boxes ids).edges

    abbrev sp : List Spot
    sp = spots_for (view_in q) (fan_in q t.boxes ids)

    -- a front edge is an edge of the site and faces the post
    front_edge : (x : LocalEdge) → In x es
        → (x.edge < site.points) × (lt (facing c.origin (edge_of t.points t.polygons t.owners x.edge).a (edge_of t.points t.polygons t.owners x.edge).b) zero_f ≡ true)
    unfolding edge_of
    front_edge x i =
        let f = front_faces q t.boxes ids x i in
        let b : f.polygon < site.polygons = all_in (λ (x : ℕ). x < site.polygons) ids f.polygon named f.listed in
        let e : x.edge < site.points = omega (arith, S.inside f.polygon b, f.below, f.number) in
        let z : edge_end_of t.polygons t.owners x.edge ≡ first_of t.polygons f.polygon + (f.i + 1) % len_of t.polygons f.polygon =
        ap (edge_end_of t.polygons t.owners) f.number ∙ edge_end site t S f.polygon f.i b f.below in (
          e,
          faces_below c.origin (point_at t.points x.edge) (point_at t.points (edge_end_of t.polygons t.owners x.edge)) O (S.point_in x.edge e)
              (S.point_in (edge_end_of t.polygons t.owners x.edge) (end_below S x.edge e))
              (subst (λ (n : ℕ). le zero_f (facing c.origin (point_at t.points x.edge) (point_at t.points n)) ≡ false) (sym z) f.faces),
        )

    -- the polygon that owns it is one of the site
    owner_few : (x : LocalEdge) → In x es → owner_at t.owners x.edge < 4096
    owner_few x i = omega (arith, S.owner_below x.edge (front_edge x i).0, S.few_polygons)

    owns_by : (P : ℕ → Type 0) (id e : ℕ) (x : LocalEdge) → owner_at t.owners e ≡ id → In x es → x.edge ≡ e → P e → OwnsFacing site t c.origin P id
    owns_by P id e x o i n p =
        let f = front_edge x i in
        record {
          edge = e;
          below = subst (λ (n : ℕ). n < site.points) n f.0;
          owner = o;
          faces = subst (λ (n : ℕ). lt (facing c.origin (edge_of t.points t.polygons t.owners n).a (edge_of t.points t.polygons t.owners n).b) zero_f ≡ true) n f.1;
          cast = p;
        }

    cast_tested : (x : LocalEdge) (e : ℕ) → Tested q es sp x → x.edge ≡ e → CastTested (sweeps q es sp) e
    cast_tested x e r n = ⊎_elim (λ s. inl (s.0, s.1, s.2, s.3, s.4, x, s.5, n)) (λ s. inr (s.0, s.1, s.2, s.3, s.4, x, s.5, n)) r

    run_owns : (run_of q es sp).at.over ≡ false → (id : ℕ) → In id (marked_of (run_of q es sp).marks) → OwnsFacing site t c.origin (CastTested (sweeps q es sp)) id
    run_owns h id i = let v = visible_owns q es sp h id i in owns_by (CastTested (sweeps q es sp)) id v.edge v.front v.owner v.listed v.number (cast_tested v.front v.edge v.tested v.number)

    run_returned : (run_of q es sp).at.over ≡ false → mode ≡ 0 → (id : ℕ) → In id (marked_of (run_of q es sp).marks) → OwnsFacing site t c.origin (CastReturned (sweeps q es sp)) id
    run_returned h m id i = let v = visible_owns q es sp h id i in owns_by (CastReturned (sweeps q es sp)) id v.edge v.front v.owner v.listed v.number (rust_returned q es sp m id v)

    run_listed : (run_of q es sp).at.over ≡ false → (a : Sample) → In a (rays_for q.mode (view_in q) es sp) → (u : Float) (e : ℕ) → a.hit ≡ hit_at u e → In (owner_at t.owners e) (marked_of (run_of q es sp).marks)
    run_listed h a i u e x =
        let (y, j, n) = sample_front q es sp a i u e x in
        samples_listed q es sp h a i u e x (subst (λ (m : ℕ). owner_at t.owners m < 4096) n (owner_few y j))

    run_tied : (run_of q es sp).at.over ≡ false → mode ≡ 1 → (a : Sample) → In a (rays_for q.mode (view_in q) es sp) → (u : Float) (e : ℕ) → a.hit ≡ hit_at u e
        → (y : LocalEdge) → In y (tied_in (sweeps q es sp) a.angle u) → In (owner_at t.owners y.edge) (marked_of (run_of q es sp).marks)
    run_tied h m a i u e x y j =
        ties_listed q es sp h (λ z. let w : ◌≡◌ {A = ℕ} 0 1 = sym z ∙ m in absurd (omega arith)) a i u e x y j (owner_few y (tested_listed q es sp y (inr (a, i, u, e, x, j))))

    says_swept : Says site t c.origin mode (swept_from q t.boxes ids) (sweep_from q t.boxes ids)
    unfolding swept_of
    says_swept =
        either (Says site t c.origin mode) (says_eight site t c.origin mode) (says_plain site t c.origin mode) (run_of q es sp).at.over _ (sweeps q es sp)
        (λ h. either (Says site t c.origin mode) (says_eight site t c.origin mode) (says_plain site t c.origin mode) (ltb q.ids (length (marked_of (run_of q es sp).marks))) _ (sweeps q es sp)
        (λ _ s e. told site t c.origin mode e (record {
          many = refl;
          owns = run_owns h;
          returned = run_returned h;
          listed = run_listed h;
          tied = run_tied h;
          events_few = events_most q t.boxes ids;
          rays_few = rays_most q t.boxes ids;
          counts = (refl, refl);
          rays = sym (rays_many (view_in q) (index_for q es) (samples_for (view_in q) sp));
          refined = run_casts q es sp h;
        })))

  -- the inner query lists polygons of the site
  look_named : (b : Aabb) (n read i : ℕ) → (look_in (Query b) site t k l).answer ≡ counted n read → i < n → get_or (look_in (Query b) site t k l).ids i 0 < site.polygons
  unfolding look_of
  look_named b n read i z j = ids_named site t S b l.marks l.epoch (min k.ids (length l.words)) n read i z j

  -- the list in front of the slice
  front_list : (n : ℕ) (w : Sweep) (s : Shown) (d : List ℕ) → OutlineHolds site t c.origin mode w s d → OutlineHolds site t c.origin mode w s (take s.visible (padded 0 n d))
  front_list n w s d h = subst (OutlineHolds site t c.origin mode w s) (sym (ap (λ (m : ℕ). take m (padded 0 n d)) h.many ∙ take-append_seam d _)) h

  seen_holds : (s : Shown) → (seen_from_of site t c tolerance mode k l).answer ≡ Ok s
      → OutlineHolds site t c.origin mode (seen_sweep site t c tolerance mode k l) s (take s.visible (seen_from_of site t c tolerance mode k l).left.visible)
  unfolding seen_from_of
  seen_holds s e =
      let p = plan_of site.grid t.points t.boxes t.polygons t.starts t.items c in
      front_list (length l.visible) (seen_sweep site t c tolerance mode k l) s _
      (drawn_by (Says site t c.origin mode) (says_eight site t c.origin mode) (says_plain site t c.origin mode) q (λ n m. says_circle site t c.origin mode c tolerance n m (length l.outline))
      (is_short k (length l.floats) (length l.words)) p t.boxes (look_in p site t k l).answer (look_in p site t k l).ids (λ b y n read z. says_swept (take n (look_in p site t k l).ids) (below p b y n read z)) s e)
    where
      below : (p : Plan) (b : Aabb) → p ≡ Query b → (n read : ℕ) → (look_in p site t k l).answer ≡ counted n read → AllBelow site.polygons (take n (look_in p site t k l).ids)
      below Empty b y n read z = cc
      below Inside b y n read z = cc
      below (Query a) b y n read z =
          at_all (λ (x : ℕ). x < site.polygons) (take n (look_in (Query a) site t k l).ids) 0
          (λ i g. let j : i < n = omega (arith, length-take n (look_in (Query a) site t k l).ids) in rw get_or-take (look_named a n read i z j))

-- ---- of the call
module _ (site : Site) (t : Tables) (c : ViewCone) (tolerance : Float) (mode : ℕ) (k : Rooms) (l : Lent) where
  load_inside : point_in_domain c.origin ≡ true → point_in_domain (load_point_of c.origin) ≡ true
  unfolding point_in_domain load_point_of
  load_inside h =
      let a = both (in_domain c.origin.x) (in_domain c.origin.y) h in rw (load_domain c.origin.x a.0, load_domain c.origin.y a.1)

  origin_inside : cone_in_domain c ≡ true → point_in_domain c.origin ≡ true
  unfolding cone_in_domain
  origin_inside h = (both _ _ (both _ _ (both _ _ (both _ _ h).0).0).0).0

  holds_by : (s : Shown) (n : Result (Unit {0}) Refusal) → admit_of site t c mode (length l.marks) ≡ n → (outcome_by n site t c tolerance mode k l).answer ≡ Ok s
      → OutlineHolds site t (load_point_of c.origin) mode (seen_sweep site t (load_cone_of c) (load_of tolerance) mode k l) s
      (take s.visible (outcome_by n site t c tolerance mode k l).left.visible)
  unfolding load_cone_of
  holds_by s (Ok u) e h =
      seen_holds site t (sound site t (admitted_sound site t c mode (length l.marks) e)) (load_cone_of c) (load_inside (origin_inside (admitted_inside site t c mode (length l.marks) e))) (load_of tolerance) mode k l s h
  holds_by s (Err r) e h = cc

  -- DEMAND 3 OF THE OUTLINE
  pub outline_holds : (s : Shown) → (outcome site t c tolerance mode k l).answer ≡ Ok s
      → OutlineHolds site t (load_point_of c.origin) mode (sweep_in site t c tolerance mode k l) s (take s.visible (outcome site t c tolerance mode k l).left.visible)
  unfolding outcome sweep_in
  outline_holds s h = holds_by s (admit_of site t c mode (length l.marks)) refl h

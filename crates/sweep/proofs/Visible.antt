-- DEMAND 3, THE VISIBLE POLYGONS: each entry of `owners` is an edge that a cast of the run credits, every edge that a sample's cast credits is an entry, the count of
-- owners is the number of entries and that of the casts of refining the number of its rays; and the marks that a walk leaves, where it is not over, are those of the
-- entries' owners. Assumes nothing.
use Rattle.std.proofs.Common.{◌≡◌, ℕ, ◌+◌, ◌*◌, Bool, true, false, cond, ◌&&◌, eqb, ◌⊎◌, List, [], ◌∷◌, map, length, sym, refl, ap, ◌∙◌, subst, inl, inr, ⊎_elim, arith, None, Option, Some}
use lib.Ieee.{Float, lt}
use Rattle.lists.specs.Members.{In, All}
use Rattle.lists.proofs.Members.{all_map, in_all}
use Rattle.geom.specs.declared.Vec2.{Vec2}
use Rattle.geom.specs.Vec.{distance_of}
use Rattle.site.specs.Tables.{owner_at, edge_of}
use Rattle.sorts.specs.Visible.{Marks}
use Rattle.sorts.proofs.Marks.{marks_more}
use Rattle.room.specs.declared.Sample.{Sample}
use Rattle.outline.specs.declared.Trace.{Trace}
use Rattle.outline.specs.Outline.{corner, none, out, Own}
use Rattle.outline.proofs.Ways.{own_add}
use Rattle.refining.specs.declared.End.{End}
use Rattle.refining.specs.declared.Turn.{Turn}
use Rattle.refining.specs.declared.Turn.TheVariants.{Stop, Open, Hidden}
use Rattle.refining.specs.Refine.{Env, point_of, crossing_of, hides, look_by, look_of, turn_by, meet_of, turn_of}
use Rattle.std.specs.Prelude.{Option}
use Rattle.sweep.specs.Sweep.{next_of, Course, sweep_of, begin_of}
use Rattle.sweep.specs.Recorder.{owns_with, emit_with, visit_with, walk_with, sweep_with, Free, free_at, free, free_begin, as_rust}
use Rattle.sweep.proofs.Sim.{Turns, HitsAt, sim_sweep, any_visit, any_walk, any_sweep}
use Rattle.sweep.proofs.Pushed.{push_grows, all_grows}
use Rattle.sweep.proofs.Exact.{beside}
use Rattle.site.specs.Hits.{hit_at}
use Rattle.site.specs.declared.RayHit.{RayHit}

-- ---- the credits of an edge that hides a crossing are those of what the ray at the crossing's angle hits
abbrev Hides : Env → Float → List ℕ → Type 0
Hides v angle l = (t : Float) × (e : ℕ) × (v.cast angle ≡ hit_at t e) × (l ≡ v.credits angle e)

module _ (v : Env) where
  turns_cond : (x : Bool) (s t : Turn) → Turns v (Hides v) s → Turns v (Hides v) t → Turns v (Hides v) (cond x s t)
  turns_cond true s t h k = h
  turns_cond false s t h k = k

  look_turns : (h : (Option RayHit)) (a b : End) (p : Vec2) (angle : Float) → v.cast angle ≡ h → Turns v (Hides v) (look_by h v.view a b p angle)
  look_turns (Some h) a b p angle k =
      let x = hides (distance_of p v.view.o) h.t in
      let there = Hidden (point_of v.view angle (hit_at h.t h.edge)) angle h.edge in
      turns_cond (eqb h.edge a.edge) (Open p) (cond (eqb h.edge b.edge) (Open p) (cond x there (Open p))) tt
      (turns_cond (eqb h.edge b.edge) (Open p) (cond x there (Open p)) tt (turns_cond x there (Open p) (h.t, h.edge, k, refl) tt))
  look_turns None a b p angle k = tt

  turn_by_lem : (m : (Option Vec2)) (a b : End) → Turns v (Hides v) (turn_by m v a b)
  unfolding look_of
  turn_by_lem (Some p) a b =
      let g = crossing_of v.view a.angle p in
      turns_cond (lt a.angle g && lt g b.angle) (look_of v.cast v.view a b p g) Stop (look_turns (v.cast g) a b p g refl) tt
  turn_by_lem None a b = tt

  turn_returned : (a b : End) → Turns v (Hides v) (turn_of v a b)
  unfolding turn_of
  turn_returned a b =
      turn_by_lem (meet_of (edge_of v.points v.polygons v.owners a.edge) (edge_of v.points v.polygons v.owners b.edge)) a b

-- ---- the ray that is recorded is the one that decides the turn: at the crossing's angle, and none where there is no crossing between the ends
abbrev pub CastAt : Env → End → End → Turn → Type 0
CastAt v a b Stop = Unit {0}
CastAt v a b (Open p) = Open p ≡ look_of v.cast v.view a b p (crossing_of v.view a.angle p)
CastAt v a b (Hidden h g e) = (p : Vec2) × (g ≡ crossing_of v.view a.angle p) × (Hidden h g e ≡ look_of v.cast v.view a b p g)

module _ (v : Env) (a b : End) where
  at_cond : (x : Bool) (s t : Turn) → CastAt v a b s → CastAt v a b t → CastAt v a b (cond x s t)
  at_cond true s t h k = h
  at_cond false s t h k = k

  -- a look is open, or hidden at its own angle
  abbrev Looks : Vec2 → Float → Turn → Type 0
  Looks p angle t = (t ≡ Open p) ⊎ ((h : Vec2) × (e : ℕ) × (t ≡ Hidden h angle e))

  looks_cond : (p : Vec2) (angle : Float) (x : Bool) (s t : Turn) → Looks p angle s → Looks p angle t → Looks p angle (cond x s t)
  looks_cond p angle true s t h k = h
  looks_cond p angle false s t h k = k

  look_by_lem : (h : (Option RayHit)) (p : Vec2) (angle : Float) → Looks p angle (look_by h v.view a b p angle)
  look_by_lem (Some h) p angle =
      let x = hides (distance_of p v.view.o) h.t in
      let there = Hidden (point_of v.view angle (hit_at h.t h.edge)) angle h.edge in
      looks_cond p angle (eqb h.edge a.edge) (Open p) (cond (eqb h.edge b.edge) (Open p) (cond x there (Open p))) (inl refl)
      (looks_cond p angle (eqb h.edge b.edge) (Open p) (cond x there (Open p)) (inl refl)
      (looks_cond p angle x there (Open p) (inr (point_of v.view angle (hit_at h.t h.edge), h.edge, refl)) (inl refl)))
  look_by_lem None p angle = inl refl

  look_at : (p : Vec2) → CastAt v a b (look_of v.cast v.view a b p (crossing_of v.view a.angle p))
  unfolding look_of
  look_at p =
      let g = crossing_of v.view a.angle p in
      ⊎_elim (λ k. subst (CastAt v a b) (sym k) (sym k)) (λ k. subst (CastAt v a b) (sym k.2) (p, refl, sym k.2)) (look_by_lem (v.cast g) p g)

  at_by : (m : (Option Vec2)) → CastAt v a b (turn_by m v a b)
  at_by (Some p) =
      let g = crossing_of v.view a.angle p in
      at_cond (lt a.angle g && lt g b.angle) (look_of v.cast v.view a b p g) Stop (look_at p) tt
  at_by None = tt

  pub turn_cast : CastAt v a b (turn_of v a b)
  unfolding turn_of
  turn_cast = at_by (meet_of (edge_of v.points v.polygons v.owners a.edge) (edge_of v.points v.polygons v.owners b.edge))

-- ---- the edges that have an entry
-- one that a cast credits: that of a ray at one of these angles, or that of a sample
abbrev pub EnteredBy : Course → List Sample → List Float → ℕ → Type 0
EnteredBy c l angles e =
    ((angle : Float) × In angle angles × (t : Float) × (f : ℕ) × (c.env.cast angle ≡ hit_at t f) × In e (c.env.credits angle f))
    ⊎ ((a : Sample) × In a l × (t : Float) × (f : ℕ) × (a.hit ≡ hit_at t f) × In e (c.env.credits a.angle f))

-- of a run: the angles are those at which its refining cast
abbrev pub Entered : Course → List Sample → List ℕ → ℕ → Type 0
Entered c l marks e = EnteredBy c l (as_rust c l marks).rays e

-- ---- several entries
module _ (v : Env) where
  owns_rays : (m : List ℕ) (f : Free) → (owns_with (free v) m f).rays ≡ f.rays
  owns_rays [] f = refl
  owns_rays (e ∷ m) f = owns_rays m ((free v).own e f)

  owns_all : (P : ℕ → Type 0) (m : List ℕ) (f : Free) → All P m → All P f.entries → All P (owns_with (free v) m f).entries
  owns_all P [] f a k = k
  owns_all P (e ∷ m) f a k = owns_all P m ((free v).own e f) a.1 (a.0, k)

  owns_keep : (n : ℕ) (m : List ℕ) (f : Free) → In n f.entries → In n (owns_with (free v) m f).entries
  owns_keep n [] f i = i
  owns_keep n (e ∷ m) f i = owns_keep n m ((free v).own e f) (inr i)

  owns_in : (n : ℕ) (m : List ℕ) (f : Free) → In n m → In n (owns_with (free v) m f).entries
  owns_in n [] f i = absurd i
  owns_in n (e ∷ m) f i = ⊎_elim (λ q. owns_keep n m ((free v).own e f) (inl q)) (λ j. owns_in n m ((free v).own e f) j) i

-- a run in lists that grow: its counts are the lists' lengths, and its marks those of the entries' owners
pub record Held (owners : List ℕ) (f : Free) : Type 0 where
  pub size : length f.run.pts ≡ 2 * f.run.at.points
  pub going : f.run.at.over ≡ false
  pub count : length f.entries ≡ f.run.at.owners
  pub casts : length f.rays ≡ f.run.at.refinements
  pub marked : Marks (map (owner_at owners) f.entries) f.run.marks

module _ (c : Course) (l : List Sample) (marks : List ℕ) where
  -- ---- each entry is an edge that a cast credits
  abbrev Sampled : List ℕ → Type 0
  Sampled m = (a : Sample) × In a l × (t : Float) × (f : ℕ) × (a.hit ≡ hit_at t f) × (m ≡ c.env.credits a.angle f)

  sample_hits : (a : Sample) → In a l → (h : (Option RayHit)) → a.hit ≡ h → HitsAt c.env Sampled a.angle h
  sample_hits a i (Some h) x = (a, i, h.t, h.edge, x, refl)
  sample_hits a i None x = tt

  -- one ray more takes none away
  still : (angle : Float) (angles : List Float) (e : ℕ) → EnteredBy c l angles e → EnteredBy c l (angle ∷ angles) e
  still angle angles e h = ⊎_elim (λ s. inl (s.0, inr s.1, s.2, s.3, s.4, s.5)) inr h

  all_still : (angle : Float) (angles : List Float) (es : List ℕ) → All (EnteredBy c l angles) es → All (EnteredBy c l (angle ∷ angles)) es
  all_still angle angles es h = all_map (EnteredBy c l angles) (EnteredBy c l (angle ∷ angles)) (still angle angles) es h

  abbrev Each : Free → Type 0
  Each f = All (EnteredBy c l f.rays) f.entries

  each_more : (m : List ℕ) (f : Free) → All (EnteredBy c l f.rays) m → Each f → Each (owns_with (free c.env) m f)
  each_more m f a k =
      subst (λ (r : List Float). All (EnteredBy c l r) (owns_with (free c.env) m f).entries) (sym (owns_rays c.env m f)) (owns_all c.env (EnteredBy c l f.rays) m f a k)

  sampled_each : (m : List ℕ) (angles : List Float) → Sampled m → All (EnteredBy c l angles) m
  sampled_each m angles (a, i, t, f, x, q) = in_all (EnteredBy c l angles) m (λ e j. inr (a, i, t, f, x, subst (In e) q j))

  hidden_each : (w : Float) (m : List ℕ) (angles : List Float) → Hides c.env w m → All (EnteredBy c l (w ∷ angles)) m
  hidden_each w m angles (t, f, x, q) = in_all (EnteredBy c l (w ∷ angles)) m (λ e j. inl (w, inl refl, t, f, x, subst (In e) q j))

  pub entries_entered : All (Entered c l marks) (as_rust c l marks).entries
  entries_entered =
      sim_sweep (free c.env) (free c.env) (λ (f g : Free). Each f) (Hides c.env) Sampled (λ p tag f g h. h) (λ m k f g h. each_more m f (sampled_each m f.rays k) h)
      (λ w f g h. all_still w f.rays f.entries h) (λ w m k f g h. each_more m ((free c.env).cast w f) (hidden_each w m f.rays k) (all_still w f.rays f.entries h)) (λ cs f g h. h) c
      (turn_returned c.env) l (λ a i. sample_hits a i a.hit refl) (free_begin c.env.view marks) (free_begin c.env.view marks) tt

  -- ---- every edge that a sample's cast credits is an entry
  module _ (t : Float) (f e : ℕ) where
    still_visit : (b : Sample) (n : Option Sample) (x : Free) → In e x.entries → In e (visit_with (free c.env) c b n x).entries
    still_visit b n x k = any_visit (free c.env) (free c.env) (λ (y z : Free). In e y.entries) (λ p tag y z h. h) (λ w y z h. inr h) (λ g y z h. h) (λ cs y z h. h) c b n x x k

    still_walk : (first : Sample) (m : List Sample) (x : Free) → In e x.entries → In e (walk_with (free c.env) c first m x).entries
    still_walk first m x k = any_walk (free c.env) (free c.env) (λ (y z : Free). In e y.entries) (λ p tag y z h. h) (λ w y z h. inr h) (λ g y z h. h) (λ cs y z h. h) c first m x x k

    visited : (a : Sample) (h : (Option RayHit)) → h ≡ hit_at t f → In e (c.env.credits a.angle f) → (x : Free) → In e (emit_with (free c.env) h c.env a.angle x).entries
    visited a h q j x = rw q (owns_in c.env e (c.env.credits a.angle f) x j)

    walk_owns : (first : Sample) (m : List Sample) (x : Free) (a : Sample) → In a m → a.hit ≡ hit_at t f → In e (c.env.credits a.angle f) → In e (walk_with (free c.env) c first m x).entries
    unfolding walk_with
    walk_owns first [] x a i q j = absurd i
    walk_owns first (b ∷ m) x a i q j =
        let n = next_of c.env.view.full first m in
        let g = emit_with (free c.env) b.hit c.env b.angle x in
        ⊎_elim
        (λ z. still_walk first m (visit_with (free c.env) c b n g)
        (still_visit b n g (visited b b.hit (ap (λ (y : Sample). y.hit) (sym z) ∙ q) (subst (λ (y : Sample). In e (c.env.credits y.angle f)) z j) x)))
        (λ z. walk_owns first m (visit_with (free c.env) c b n g) a z q j)
        i

    sweep_owns : (m : List Sample) (x : Free) (a : Sample) → In a m → a.hit ≡ hit_at t f → In e (c.env.credits a.angle f) → In e (sweep_with (free c.env) c m x).entries
    unfolding sweep_with
    sweep_owns [] x a i q j = absurd i
    sweep_owns (b ∷ m) x a i q j = walk_owns b (b ∷ m) x a i q j

  pub credits_entered : (a : Sample) → In a l → (t : Float) (f : ℕ) → a.hit ≡ hit_at t f → (e : ℕ) → In e (c.env.credits a.angle f) → In e (as_rust c l marks).entries
  credits_entered a i t f q e j = sweep_owns t f e l (free_begin c.env.view marks) a i q j

  -- ---- the marks are those of the entries' owners
  held_push : (p : Vec2) (tag : ℕ) (f g : Free) → Held c.env.owners f → Held c.env.owners ((free c.env).push p tag f)
  held_push p tag f g h =
      let q = push_grows c.env.view.o p tag (out f.run.pts f.run.at) h.size h.going in
      record { size = q.size; going = q.going; count = h.count ∙ sym q.owners; casts = h.casts ∙ sym q.casts; marked = h.marked }

  held_own : (e : ℕ) (f g : Free) → Held c.env.owners f → Held c.env.owners ((free c.env).own e f)
  held_own e f g h =
      let s = f.run.at in
      subst (Held c.env.owners)
      (ap (λ (q : Own). free_at f.run.pts q.marks q.at f.most (e ∷ f.entries) f.rays) (own_add (f.run.at.owners + 1) c.env.owners e f.run.marks f.run.at h.going (omega arith)))
      (record {
        size = h.size;
        going = h.going;
        count = omega (arith, h.count);
        casts = h.casts;
        marked = marks_more (map (owner_at c.env.owners) f.entries) f.run.marks (owner_at c.env.owners e) h.marked;
      })

  held_cast : (w : Float) (f g : Free) → Held c.env.owners f → Held c.env.owners ((free c.env).cast w f)
  held_cast w f g h = record { size = h.size; going = h.going; count = h.count; casts = omega (arith, h.casts); marked = h.marked }

  held_see : (cs : List ℕ) (f g : Free) → Held c.env.owners f → Held c.env.owners ((free c.env).see cs f)
  held_see cs f g h =
      let q = all_grows c.env.view.o c.env.points cs (out f.run.pts f.run.at) h.size h.going in
      record { size = q.size; going = q.going; count = h.count ∙ sym q.owners; casts = h.casts ∙ sym q.casts; marked = h.marked }

  held_begin : Marks [] marks → Held c.env.owners (free_begin c.env.view marks)
  held_begin h = by c.env.view.full refl
    where
      by : (t : Bool) → c.env.view.full ≡ t → Held c.env.owners (free_begin c.env.view marks)
      by true k = rw k (record { size = refl; going = refl; count = refl; casts = refl; marked = h })
      by false k =
          let q = push_grows c.env.view.o c.env.view.o corner (out [] none) refl refl in
          rw k (record { size = q.size; going = q.going; count = sym q.owners; casts = sym q.casts; marked = h })

  pub entries_held : Marks [] marks → Held c.env.owners (as_rust c l marks)
  entries_held h =
      any_sweep (free c.env) (free c.env) (λ (f g : Free). Held c.env.owners f) held_push held_own held_cast held_see c l (free_begin c.env.view marks) (free_begin c.env.view marks) (held_begin h)

  -- the marks that the walk in lent lists leaves
  pub marks_left : (pts : List Float) → Marks [] marks → (sweep_of c l (begin_of c.env.view pts marks)).at.over ≡ false
      → Marks (map (owner_at c.env.owners) (as_rust c l marks).entries) (sweep_of c l (begin_of c.env.view pts marks)).marks
  marks_left pts h k = subst (Marks (map (owner_at c.env.owners) (as_rust c l marks).entries)) (sym ((beside c l pts marks).marks k)) (entries_held h).marked

  -- as many rays of refining as the walk counts
  pub casts_left : (pts : List Float) → Marks [] marks → (sweep_of c l (begin_of c.env.view pts marks)).at.over ≡ false
      → (sweep_of c l (begin_of c.env.view pts marks)).at.refinements ≡ length (as_rust c l marks).rays
  casts_left pts h k = ap (λ (t : Trace). t.refinements) ((beside c l pts marks).pair.same k).at ∙ sym (entries_held h).casts

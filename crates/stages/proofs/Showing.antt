-- What an answer shows: one law for each way through `circle`, `trace`, `sweep_events` and `staged`. Assumes nothing.
use Rattle.std.proofs.Common.{Err, Ok, Result}
use mathlib.Core.Path.{◌≡◌, refl, sym, ap, ◌∙◌}
use mathlib.Core.Bool.{Bool, true, false, ◌||◌, cond, true≢false, or-false, or-true}
use mathlib.Core.Logic.{◌⊎◌, ⊎_elim}
use mathlib.Core.List.{List, [], ◌∷◌}
use Prim.Native.Nat.{ℕ, ◌*◌, ◌/◌, ◌≤◌, ◌<◌}
use native.Mathlib.Omega.{arith}
use borrow.Author.Tests.{lt-ltb, le-ltb}
use lib.Dec.{ltb}
use lib.ListN.{length, take}
use lib.Seq.{sets, length-take-le}
use lib.Ieee.{Float}
use Rattle.lists.specs.Parts.{Has}
use Rattle.lists.proofs.AllTo.{neither}
use Rattle.lists.proofs.Cases.{lt_or_le}
use Rattle.lists.proofs.Joined.{length_listed}
use Rattle.lists.proofs.Parts.{laid}
use Rattle.sorts.specs.Visible.{marked_of}
use Rattle.cone.specs.declared.ViewCone.{ViewCone}
use Rattle.cone.specs.declared.View.{View}
use Rattle.cone.specs.Cone.{is_full_of, arc_step_of, outline_of, numbers_of, Drawn}
use Rattle.cone.proofs.Arcs.{length_numbers}
use Rattle.room.specs.declared.LocalEdge.{LocalEdge}
use Rattle.room.specs.declared.Sample.{Sample}
use Rattle.room.specs.Records.{edge_at, edges_in}
use Rattle.fan.specs.Fan.{Fanned, fan_of, is_over}
use Rattle.events.specs.Spots.{Spot}
use Rattle.events.specs.Held.{spot_at, spots_in}
use Rattle.outline.specs.declared.Trace.{Trace}
use Rattle.refining.specs.Refine.{Run, run_at}
use Rattle.sweep.specs.Sweep.{Course, begin_of, sweep_of}
use Rattle.stages.specs.declared.Gathering.{Gathering}
use Rattle.stages.specs.declared.Casting.{Casting}
use Rattle.stages.specs.declared.Tracing.{Tracing}
use Rattle.stages.specs.Drawing.{Request, view_in, Drawing, eight, plain, fan_in, spots_for, events_over, circle_by, samples_for, rays_over, run_of, swept_of, spotted, fanned, staged_of}
use Rattle.stages.specs.Shows.{points_in, ids_in, Shows}
use Rattle.stages.specs.declared.Gathering.TheVariants.{Over, Touching, Found}
use Rattle.stages.specs.Held.{gathering_of, Standing, Gathered, CastedTo, run_in, traced_over, TracedTo, Traced}
use Rattle.std.specs.Prelude.{Option, Some, None}
use Rattle.stages.proofs.Running.{run_is}
use Rattle.refusal.specs.declared.Refusal.{Refusal}
use Rattle.refusal.specs.declared.Refusal.TheVariants.{NoListRoom}
use Rattle.stages.specs.declared.Shown.{Shown}

pub shows_eight : {d : Drawing} (o : List Float) (i : List ℕ) → d ≡ eight → Shows d (Err NoListRoom) o i
unfolding points_in ids_in
shows_eight o i e = rw e (record { is = refl; points_many = refl; ids_many = refl; points_laid = refl; ids_laid = refl })

pub shows_plain : {d : Drawing} {r : (Result Shown Refusal)} (b full : Bool) (o : List Float) (i : List ℕ) → r ≡ (plain b full).answer → d ≡ plain b full → Shows d r o i
unfolding points_in ids_in
shows_plain b full o i p e = rw (e, p) (record { is = refl; points_many = refl; ids_many = refl; points_laid = refl; ids_laid = refl })

-- ---- `circle`
module _ (c : ViewCone) (tolerance : Float) (candidates edges : ℕ) (old new : List Float) (n : ℕ) (D : Drawn c tolerance old new n) where
  none_is : length old < 2 * n → circle_by c tolerance candidates edges (length old) ≡ eight
  unfolding circle_by
  none_is h = rw (lt-ltb (length old) (2 * length (outline_of c tolerance)) (omega (arith, D.count)))

  pub circle_over : {l : ℕ} → l ≡ length old → l / 2 < n → Shows (circle_by c tolerance candidates edges (length old)) (Err NoListRoom) new []
  circle_over e h = shows_eight new [] (none_is (omega arith))

  circle_is : 2 * n ≤ length old → circle_by c tolerance candidates edges (length old) ≡ record {
    answer = Ok (record { blocked = false; full = is_full_of c; points = n; visible = 0; candidates = candidates; front_edges = edges; events = 0; rays_cast = 0; refinements = 0 });
    pts = numbers_of (outline_of c tolerance);
    ids = [];
  }
  unfolding circle_by
  circle_is h = rw (le-ltb (length old) (2 * length (outline_of c tolerance)) (omega (arith, D.count)), D.count)

  pub circle_done : {l : ℕ} {b : Bool} → l ≡ length old → n ≤ l / 2 → b ≡ is_full_of c
      → Shows (circle_by c tolerance candidates edges (length old)) (Ok (record { blocked = false; full = b; points = n; visible = 0; candidates = candidates; front_edges = edges; events = 0; rays_cast = 0; refinements = 0 })) new []
  unfolding points_in ids_in
  circle_done k g e =
      let h : 2 * n ≤ length old = omega arith in
      let m : length (numbers_of (outline_of c tolerance)) ≡ 2 * n = length_numbers (outline_of c tolerance) ∙ sym (ap (λ (i : ℕ). 2 * i) D.count) in
      rw (circle_is h, e) (record {
        is = refl;
        points_many = sym m;
        ids_many = refl;
        points_laid = rw D.points (laid old 0 (numbers_of (outline_of c tolerance)) (omega arith));
        ids_laid = refl;
      })

-- ---- `trace`
pub run_from : (c : Course) (l : List Sample) (v : View) {p p' : List Float} {m m' : List ℕ} {z : Run} → z ≡ sweep_of c l (begin_of v p m) → p ≡ p' → m ≡ m' → z ≡ sweep_of c l (begin_of v p' m')
run_from c l v {p} {p'} {m} e h g = e ∙ ap (λ (x : List Float). sweep_of c l (begin_of v x m)) h ∙ ap (λ (x : List ℕ). sweep_of c l (begin_of v p' x)) g

module _ (run : Run) (t : Trace) (o : List Float) (m : List ℕ) (old new : List ℕ) (n : ℕ) (e : run_at o m t ≡ run) (within : 2 * t.points ≤ length o) (hn : n ≡ length (marked_of m)) (hs : new ≡ sets old 0 (marked_of m)) where
  traced_by : {r : Option Tracing} → Traced (run_at o m t) (length old) r o new → Traced run (length old) r o new
  traced_by T = rw e at T

  -- the run was over, or its polygons are too many
  pub trace_over : (t.over ≡ true) ⊎ (length old < n) → Traced run (length old) None o new
  trace_over h = traced_by (record {
    by = ⊎_elim
        (λ q. ap (λ (b : Bool). b || ltb (length old) (length (marked_of m))) q)
        (λ l. ap (λ (b : Bool). t.over || b) (lt-ltb (length old) (length (marked_of m)) (omega arith)) ∙ or-true t.over) h;
    pts = refl;
    within = within;
  })

  pub trace_done : t.over ≡ false → n ≤ length old → Traced run (length old) (Some (record { points = t.points; visible = n; refinements = t.refinements })) o new
  trace_done q h = traced_by (record {
    by = record {
      fits = ap (λ (b : Bool). t.over || b) (le-ltb (length old) (length (marked_of m)) (omega arith)) ∙ or-false t.over ∙ q;
      points = refl;
      refinements = refl;
      visible_many = hn;
      ids = rw hs (laid old 0 (marked_of m) (omega arith));
    };
    pts = refl;
    within = within;
  })

-- ---- `sweep_events`
module _ (q : Request) (candidates : ℕ) (es : List LocalEdge) where
  spotted_some : (sp : List Spot) → 0 < length sp → spotted q candidates es sp ≡ cond (rays_over q.k (view_in q) es sp) eight (swept_of q candidates es sp (run_of q es sp))
  unfolding spotted
  spotted_some [] h = absurd (omega arith)
  spotted_some (s ∷ l) h = refl

  pub no_events : (sp : List Spot) → length sp ≡ 0 → {r : (Result Shown Refusal)} (o : List Float) (i : List ℕ)
      → Shows (circle_by q.cone q.tolerance candidates (length es) q.numbers) r o [] → Shows (spotted q candidates es sp) r o i
  unfolding spotted
  no_events [] e o i S = record { is = S.is; points_many = S.points_many; ids_many = S.ids_many; points_laid = S.points_laid; ids_laid = none _ S.ids_laid }
    where
      nil : (l : List ℕ) → [] ≡ l → take (length l) i ≡ l
      nil [] p = refl
      nil (x ∷ l) p = let z : ◌≡◌ {A = ℕ} 0 1 = cc in absurd (omega arith)

      empty : (l : List ℕ) → ◌≡◌ {A = List ℕ} (take (length l) []) []
      empty [] = refl
      empty (x ∷ l) = refl

      none : (l : List ℕ) → Has [] 0 l → Has i 0 l
      none l p = nil l (sym (empty l) ∙ p)
  no_events (s ∷ l) e o i S = absurd (omega arith)

  module _ (sp : List Spot) (some : 0 < length sp) where
    pub rays_over_lem : (o : List Float) (i : List ℕ) → rays_over q.k (view_in q) es sp ≡ true → Shows (spotted q candidates es sp) (Err NoListRoom) o i
    rays_over_lem o i e = shows_eight o i (spotted_some sp some ∙ rw e)

    module _ (e : rays_over q.k (view_in q) es sp ≡ false) (o : List Float) (i : List ℕ) where
      swept_by : spotted q candidates es sp ≡ swept_of q candidates es sp (run_of q es sp)
      swept_by = spotted_some sp some ∙ rw e

      over_by : (a b : Bool) (d : Drawing) → (a || b) ≡ true → cond a eight (cond b eight d) ≡ eight
      over_by true b d p = refl
      over_by false true d p = refl
      over_by false false d p = absurd (true≢false (sym p))

      swept_over : traced_over (run_of q es sp) q.ids ≡ true → swept_of q candidates es sp (run_of q es sp) ≡ eight
      unfolding swept_of
      swept_over p = over_by (run_of q es sp).at.over (ltb q.ids (length (marked_of (run_of q es sp).marks))) _ p

      pub sweep_over : traced_over (run_of q es sp) q.ids ≡ true → Shows (spotted q candidates es sp) (Err NoListRoom) o i
      sweep_over p = shows_eight o i (swept_by ∙ swept_over p)

      module _ (r : Tracing) (T : Traced (run_of q es sp) q.ids (Some r) o i) where
        t : TracedTo (run_of q es sp) q.ids r i
        t = T.by

        abbrev drawn : Drawing
        drawn = record {
          answer = Ok (record {
            blocked = false;
            full = (view_in q).full;
            points = r.points;
            visible = r.visible;
            candidates = candidates;
            front_edges = length es;
            events = length sp;
            rays_cast = length (samples_for (view_in q) sp);
            refinements = r.refinements;
          });
          pts = take (2 * r.points) (run_of q es sp).pts;
          ids = marked_of (run_of q es sp).marks;
        }

        swept_is : swept_of q candidates es sp (run_of q es sp) ≡ drawn
        unfolding swept_of
        swept_is =
            let n = neither (run_of q es sp).at.over (ltb q.ids (length (marked_of (run_of q es sp).marks))) t.fits in
            rw (n.0, n.1, t.points, t.visible_many, t.refinements)

        pub sweep_done : {b : Bool} {n m l : ℕ} → b ≡ (view_in q).full → n ≡ length es → m ≡ length sp → l ≡ length (samples_for (view_in q) sp)
            → Shows (spotted q candidates es sp) (Ok (record { blocked = false; full = b; points = r.points; visible = r.visible; candidates = candidates; front_edges = n; events = m; rays_cast = l; refinements = r.refinements })) o i
        unfolding points_in ids_in
        sweep_done hb hn hm hl =
            let long : length (take (2 * r.points) (run_of q es sp).pts) ≡ 2 * r.points = length-take-le (2 * r.points) (run_of q es sp).pts (omega (arith, T.within, t.points)) in
            rw (swept_by ∙ swept_is, hb, hn, hm, hl) (record {
              is = refl;
              points_many = sym long;
              ids_many = t.visible_many;
              points_laid = ap (λ (j : ℕ). take j o) long ∙ ap (take (2 * r.points)) T.pts;
              ids_laid = t.ids;
            })

-- the same of what stands in the room
pub events_none : (q : Request) (candidates edges events : ℕ) (f : List Float) (w : List ℕ) → events ≡ 0 → {r : (Result Shown Refusal)} (o : List Float) (i : List ℕ)
    → Shows (circle_by q.cone q.tolerance candidates edges q.numbers) r o [] → Shows (spotted q candidates (edges_in q.k f w edges) (spots_in q.k f w events)) r o i
events_none q candidates edges events f w e o i S =
    no_events q candidates (edges_in q.k f w edges) (spots_in q.k f w events) (length_listed (spot_at q.k f w) events ∙ e) o i
    (rw (length_listed (edge_at q.k f w) edges) S)

module _ (q : Request) (candidates edges events : ℕ) (f : List Float) (w : List ℕ) (S : Standing q.k edges events f w) (ne : events ≡ 0 → ⊥) (v : View) (hv : v ≡ view_in q) where
  some : 0 < length (spots_in q.k f w events)
  some = ⊎_elim (λ (h : 0 < events). omega (arith, length_listed (spot_at q.k f w) events)) (λ (h : events ≤ 0). absurd (ne (omega arith))) (lt_or_le 0 events)

  pub events_over_lem : (o : List Float) (i : List ℕ) → rays_over q.k v (edges_in q.k f w edges) (spots_in q.k f w events) ≡ true → Shows (spotted q candidates (edges_in q.k f w edges) (spots_in q.k f w events)) (Err NoListRoom) o i
  events_over_lem o i h = rays_over_lem q candidates (edges_in q.k f w edges) (spots_in q.k f w events) some o i (rw hv at h)

  module _ (c : Casting) (f1 : List Float) (w1 : List ℕ) (C₀ : CastedTo q.mode q.k v (edges_in q.k f w edges) (spots_in q.k f w events) c f1 w1) (long : length w1 ≡ length w) (step : Float) (hs : step ≡ arc_step_of v.r q.tolerance)
      (o : List Float) (i : List ℕ) where
    C : CastedTo q.mode q.k (view_in q) (edges_in q.k f w edges) (spots_in q.k f w events) c f1 w1
    C = rw hv at C₀

    run_same : run_in q.k c.index f1 w1 v step q.points q.polygons q.owners c.samples q.numbers ≡ run_of q (edges_in q.k f w edges) (spots_in q.k f w events)
    run_same =
        ap (λ (z : Float). run_in q.k c.index f1 w1 v z q.points q.polygons q.owners c.samples q.numbers) hs
        ∙ ap (λ (z : View). run_in q.k c.index f1 w1 z (arc_step_of z.r q.tolerance) q.points q.polygons q.owners c.samples q.numbers) hv
        ∙ run_is q.mode q.k q.cone q.tolerance (edges_in q.k f w edges) (spots_in q.k f w events) c f1 w1 C (omega (arith, long, S.fit.words_fit))
        (omega (arith, length_listed (spot_at q.k f w) events, S.events_fit)) q.points q.polygons q.owners q.numbers q.ids

    traced_is : {t : Option Tracing} → Traced (run_in q.k c.index f1 w1 v step q.points q.polygons q.owners c.samples q.numbers) q.ids t o i
        → Traced (run_of q (edges_in q.k f w edges) (spots_in q.k f w events)) q.ids t o i
    traced_is T = rw run_same at T

    pub trace_eight : Traced (run_in q.k c.index f1 w1 v step q.points q.polygons q.owners c.samples q.numbers) q.ids None o i
        → Shows (spotted q candidates (edges_in q.k f w edges) (spots_in q.k f w events)) (Err NoListRoom) o i
    trace_eight T = sweep_over q candidates (edges_in q.k f w edges) (spots_in q.k f w events) some C.fits o i (traced_is T).by

    pub trace_seen : (r : Tracing) → Traced (run_in q.k c.index f1 w1 v step q.points q.polygons q.owners c.samples q.numbers) q.ids (Some r) o i
        → Shows (spotted q candidates (edges_in q.k f w edges) (spots_in q.k f w events))
        (Ok (record { blocked = false; full = v.full; points = r.points; visible = r.visible; candidates = candidates; front_edges = edges; events = events; rays_cast = c.samples; refinements = r.refinements })) o i
    trace_seen r T =
        sweep_done q candidates (edges_in q.k f w edges) (spots_in q.k f w events) some C.fits o i r (traced_is T) (ap (λ (z : View). z.full) hv)
        (sym (length_listed (edge_at q.k f w) edges)) (sym (length_listed (spot_at q.k f w) events)) C.samples

-- ---- `staged`
module _ (q : Request) (g : Fanned) (f : List Float) (w : List ℕ) (o : List Float) (i : List ℕ) where
  full_by : (a t b : Bool) (n e m : ℕ) (p d : Drawing) → Over ≡ cond a Over (cond t Touching (cond b Over (Found n e m))) → cond a eight (cond t p (cond b eight d)) ≡ eight
  full_by true t b n e m p d z = refl
  full_by false true b n e m p d z = cc
  full_by false false true n e m p d z = refl
  full_by false false false n e m p d z = cc

  touch_by : (a t b : Bool) (n e m : ℕ) (p d : Drawing) → Touching ≡ cond a Over (cond t Touching (cond b Over (Found n e m))) → cond a eight (cond t p (cond b eight d)) ≡ p
  touch_by true t b n e m p d z = cc
  touch_by false true b n e m p d z = refl
  touch_by false false true n e m p d z = cc
  touch_by false false false n e m p d z = cc

  found_by : (a t b : Bool) (n e m : ℕ) (p d : Drawing) {n' e' m' : ℕ} → Found n' e' m' ≡ cond a Over (cond t Touching (cond b Over (Found n e m))) → (cond a eight (cond t p (cond b eight d)) ≡ d) × (n' ≡ n)
  found_by true t b n e m p d z = (cc, cc)
  found_by false true b n e m p d z = (cc, cc)
  found_by false false true n e m p d z = (cc, cc)
  found_by false false false n e m p d z = (refl, cc)

  pub gather_over : Gathered q.k (view_in q) g Over f w → Shows (fanned q g) (Err NoListRoom) o i
  unfolding fanned gathering_of
  gather_over G = shows_eight o i (full_by (is_over q.k (length g.edges) (length g.events)) g.touch (events_over q.k (view_in q) g) _ _ _ _ _ G.is)

  pub gather_touch : Gathered q.k (view_in q) g Touching f w → {a : (Result Shown Refusal)} {b : Bool} → b ≡ (view_in q).full → a ≡ (plain true b).answer → Shows (fanned q g) a o i
  unfolding fanned gathering_of
  gather_touch G p e =
      shows_plain true (view_in q).full o i (e ∙ ap (λ (x : Bool). (plain true x).answer) p)
      (touch_by (is_over q.k (length g.edges) (length g.events)) g.touch (events_over q.k (view_in q) g) _ _ _ _ _ G.is)

  module _ {candidates edges events : ℕ} (G : Gathered q.k (view_in q) g (Found candidates edges events) f w) where
    ways : (fanned q g ≡ spotted q g.candidates g.edges (spots_for (view_in q) g)) × (candidates ≡ g.candidates)
    unfolding fanned gathering_of
    ways = found_by (is_over q.k (length g.edges) (length g.events)) g.touch (events_over q.k (view_in q) g) _ _ _ _ _ G.is

    pub gather_done : {a : (Result Shown Refusal)} → Shows (spotted q candidates (edges_in q.k f w edges) (spots_in q.k f w events)) a o i → Shows (fanned q g) a o i
    gather_done S = rw (ways.0, ← ways.1, ← G.kept.edges_are, ← G.kept.spots_are) S

-- the same of the scan
module _ (q : Request) (boxes : List Float) (ids : List ℕ) (v : View) (hv : v ≡ view_in q) (f : List Float) (w : List ℕ) (o : List Float) (i : List ℕ) where
  by_view : {r : Gathering} → Gathered q.k v (fan_of v q.points boxes q.polygons ids) r f w → Gathered q.k (view_in q) (fan_in q boxes ids) r f w
  by_view G = rw hv at G

  pub staged_over : Gathered q.k v (fan_of v q.points boxes q.polygons ids) Over f w → Shows (staged_of q boxes ids) (Err NoListRoom) o i
  unfolding staged_of
  staged_over G = gather_over q (fan_in q boxes ids) f w o i (by_view G)

  pub staged_touch : Gathered q.k v (fan_of v q.points boxes q.polygons ids) Touching f w → {a : (Result Shown Refusal)} → a ≡ (plain true v.full).answer → Shows (staged_of q boxes ids) a o i
  unfolding staged_of
  staged_touch G e = gather_touch q (fan_in q boxes ids) f w o i (by_view G) (ap (λ (z : View). z.full) hv) e

  pub staged_done : {candidates edges events : ℕ} → Gathered q.k v (fan_of v q.points boxes q.polygons ids) (Found candidates edges events) f w
      → {a : (Result Shown Refusal)} → Shows (spotted q candidates (edges_in q.k f w edges) (spots_in q.k f w events)) a o i → Shows (staged_of q boxes ids) a o i
  unfolding staged_of
  staged_done G S = gather_done q (fan_in q boxes ids) f w o i (by_view G) S

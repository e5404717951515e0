-- WHEN AN OUTLINE IS REFUSED, AND AS WHAT (`outline_exactly`): 6 exactly where the tables are unsound; after it 1 exactly where the cone lies outside the domain; then 7
-- exactly where there are fewer stamps than polygons; then 8 exactly where the lent room is too short for the stated entries, or one of the lists of the run that
-- bounds none is longer than its entries (specs/Unbounded.antt); and else it is answered. Document 01, "Refusal numbers". Assumes nothing.
use Rattle.std.proofs.Common.{None, Option, Some, Err}
use mathlib.Core.Path.{◌≡◌, refl, sym, ap, ◌∙◌}
use mathlib.Core.Bool.{Bool, true, false, cond, ◌||◌, or-false, true≢false}
use mathlib.Core.List.{List, [], ◌∷◌}
use Prim.Native.Nat.{ℕ, ◌+◌, ◌*◌, ◌≤◌, min}
use native.Mathlib.Omega.{arith}
use borrow.Author.Tests.{lt-ltb, le-ltb, ltb-true, ltb-false}
use lib.Dec.{ltb}
use lib.ListN.{length, take, replicate, length-append}
use lib.Seq.{take-append_seam}
use lib.Ieee.{Float}
use Rattle.lists.specs.Parts.{padded}
use Rattle.grid.specs.declared.Grid.{Grid}
use Rattle.lists.proofs.AllTo.{neither}
use Rattle.grid.specs.Range.{range_of}
use Rattle.grid.specs.Stamps.{epoch_after, marks_begun, firsts}
use Rattle.grid.specs.Entries.{entries_in}
use Rattle.grid.specs.Query as query
use Rattle.sorts.specs.Visible.{marked_of}
use Rattle.site.specs.declared.Site.{Site}
use Rattle.site.specs.Tables.{Tables}
use Rattle.site.specs.Domain.{load_of}
use Rattle.site.specs.Soundness.{sound_of, Sound}
use Rattle.site.specs.Checks.{passed, check, Exactly}
use Rattle.site.proofs.SoundLaws.{sound, tested}
use Rattle.site.proofs.Checks.{all_passed, by_true, by_false, either}
use Rattle.scene.specs.Asked.{asked}
use Rattle.cone.specs.declared.ViewCone.{ViewCone}
use Rattle.cone.specs.Cone.{outline_of}
use Rattle.room.specs.declared.Rooms.{Rooms}
use Rattle.room.specs.Layout.{floats_for, words_for, is_short}
use Rattle.room.proofs.Kept.{short_fit}
use Rattle.fan.specs.Fan.{Fanned}
use Rattle.events.specs.Spots.{Spot, sides_of, aside_count}
use Rattle.index.specs.Spans.{head_of}
use Rattle.index.specs.Angular.{refs_of}
use Rattle.stages.specs.Drawing.{Request, view_in, Drawing, eight, plain, fan_in, unmerged_of, spots_for, circle_by, samples_for, rays_over, run_of, swept_of, spotted, fanned, staged_of}
use Rattle.stages.proofs.Demand.{run_exact, run_marks}
use Rattle.view.specs.declared.Plan.{Plan}
use Rattle.view.specs.declared.Plan.TheVariants.{Empty, Inside, Query}
use Rattle.cone.specs.Domain.{load_cone_of}
use Rattle.visibility.specs.Asked.{asked_in_domain, admit_of}
use Rattle.view.specs.Post.{plan_of}
use Rattle.view.specs.Outcome.{Lent, look_of, listed_by, planned, drawn_of, request_of, seen_from_of}
use Rattle.visibility.specs.Outcome.{outcome_by, outcome}
use Rattle.visibility.proofs.Admitting.{tests}
use Rattle.demand.specs.Unbounded.{Lengths, no_rays, growing, swept_lengths, fanned_lengths, planned_lengths, lengths_of, Enough}
use Rattle.grid.specs.declared.CellRange.{CellRange}
use Rattle.refusal.specs.declared.Refusal.TheVariants.{NoListRoom}
use Rattle.grid.specs.Query.{counted}
use Rattle.refusal.specs.Numbers.{status_of}

-- ---- tests in a row
-- 8 where the test holds
abbrev eight_if : Bool → ℕ → ℕ
eight_if b n = cond b 8 n

-- an empty list is never longer
never_longer : (n : ℕ) → ltb n 0 ≡ false
never_longer n = le-ltb n 0 (omega arith)

eight_or : (a : Bool) (d : Drawing) → status_of (cond a eight d).answer ≡ eight_if a (status_of d.answer)
eight_or a d = either (λ (d : Drawing). status_of d.answer) a eight d

plain_or : (a u v : Bool) (d : Drawing) → status_of (cond a (plain u v) d).answer ≡ cond a 0 (status_of d.answer)
plain_or a u v d = either (λ (d : Drawing). status_of d.answer) a (plain u v) d

-- ---- a list is longer than its entries
abbrev some_longer : Rooms → ℕ → ℕ → Lengths → Bool
some_longer k numbers ids n =
    ltb k.ids n.ids
    || (ltb k.edges n.edges
    || (ltb k.events n.events
    || (ltb k.corners n.corners
    || (ltb k.starts n.starts
    || (ltb k.refs n.refs
    || (ltb k.samples n.samples
    || (ltb numbers (2 * n.points)
    || (ltb k.owners n.owners
    || (ltb k.seen n.seen
    || ltb ids n.visible)))))))))

-- the lists behind those of the scan: the starts, the references, the samples, the points, the owners, the corners seen, the visible ids
abbrev behind : Rooms → ℕ → ℕ → Lengths → Bool
behind k numbers ids n =
    ltb k.starts n.starts
    || (ltb k.refs n.refs
    || (ltb k.samples n.samples
    || (ltb numbers (2 * n.points)
    || (ltb k.owners n.owners
    || (ltb k.seen n.seen
    || ltb ids n.visible)))))

-- ---- the sweep
swept_by : (over p o s v w : Bool) → over ≡ (p || (o || s)) → (over ≡ false → v ≡ w) → eight_if over (eight_if v 0) ≡ eight_if (p || (o || (s || w))) 0
swept_by true true o s v w e h = refl
swept_by true false true s v w e h = refl
swept_by true false false true v w e h = refl
swept_by true false false false v w e h = absurd (true≢false e)
swept_by false true o s v w e h = absurd (true≢false (sym e))
swept_by false false true s v w e h = absurd (true≢false (sym e))
swept_by false false false true v w e h = absurd (true≢false (sym e))
swept_by false false false false v w e h = rw (h refl)

module _ (q : Request) (candidates : ℕ) (n : ℕ) (f : Fanned) where
  swept_status : (s : Spot) (l : List Spot) → status_of (swept_of q candidates f.edges (s ∷ l) (run_of q f.edges (s ∷ l))).answer
      ≡ eight_if (run_of q f.edges (s ∷ l)).at.over (eight_if (ltb q.ids (length (marked_of (run_of q f.edges (s ∷ l)).marks))) 0)
  unfolding swept_of
  swept_status s l =
      eight_or (run_of q f.edges (s ∷ l)).at.over _
      ∙ ap (eight_if (run_of q f.edges (s ∷ l)).at.over) (eight_or (ltb q.ids (length (marked_of (run_of q f.edges (s ∷ l)).marks))) _)

  spotted_status : (sp : List Spot) → status_of (spotted q candidates f.edges sp).answer ≡ eight_if (behind q.k q.numbers q.ids (swept_lengths q n f sp)) 0
  unfolding spotted swept_lengths circle_by rays_over
  spotted_status [] =
      eight_or (ltb q.numbers (2 * length (outline_of q.cone q.tolerance))) _
      ∙ sym (rw (never_longer q.k.starts, never_longer q.k.refs, never_longer q.k.samples, never_longer q.k.owners, never_longer q.k.seen, never_longer q.ids, or-false))
  spotted_status (s ∷ l) =
      let a = ltb q.k.starts ((head_of 0 (length f.edges) (view_in q).fov).buckets + 1) in
      let b = ltb q.k.refs (refs_of (view_in q).fov f.edges) in
      let c = ltb q.k.samples (length (samples_for (view_in q) (s ∷ l))) in
      let g = growing q f (s ∷ l) in
      let r = ltb q.numbers (2 * g.run.at.points) || (ltb q.k.owners g.run.at.owners || (ltb q.k.seen g.most || ltb q.ids (length (marked_of g.run.marks)))) in
      eight_or ((a || b) || c) _
      ∙ ap (eight_if ((a || b) || c)) (swept_status s l
      ∙ swept_by (run_of q f.edges (s ∷ l)).at.over (ltb q.numbers (2 * g.run.at.points)) (ltb q.k.owners g.run.at.owners) (ltb q.k.seen g.most)
      (ltb q.ids (length (marked_of (run_of q f.edges (s ∷ l)).marks))) (ltb q.ids (length (marked_of g.run.marks)))
      (run_exact q f.edges (s ∷ l)) (λ e. ap (λ (m : List ℕ). ltb q.ids (length (marked_of m))) (run_marks q f.edges (s ∷ l) e)))
      ∙ in_row a b c r
    where
      in_row : (a b c r : Bool) → eight_if ((a || b) || c) (eight_if r 0) ≡ eight_if (a || (b || (c || r))) 0
      in_row true b c r = refl
      in_row false true c r = refl
      in_row false false true r = refl
      in_row false false false r = refl

-- ---- the scan
fanned_by : (a b b' c r : Bool) → (b ≡ true → b' ≡ true) → eight_if (a || b) (eight_if (b' || c) (eight_if r 0)) ≡ eight_if (a || (b' || (c || r))) 0
fanned_by true b b' c r h = refl
fanned_by false true b' c r h = rw (h refl)
fanned_by false false true c r h = refl
fanned_by false false false true r h = refl
fanned_by false false false false r h = refl

-- the lists of the scan, and those behind
abbrev scanned : Rooms → ℕ → ℕ → Lengths → Bool
scanned k numbers ids n = ltb k.edges n.edges || (ltb k.events n.events || (ltb k.corners n.corners || behind k numbers ids n))

-- the sides of a sector make the events no fewer
more_events : (q : Request) (f : Fanned) → ltb q.k.events (length f.events) ≡ true → ltb q.k.events (length (unmerged_of (view_in q) f)) ≡ true
more_events q f e =
    lt-ltb q.k.events (length (unmerged_of (view_in q) f))
    (omega (arith, ltb-true q.k.events (length f.events) e, length-append f.events (sides_of (view_in q).full (view_in q).fov)))

none_aside : (sp : List Spot) (q : Request) (n : ℕ) (f : Fanned) → (swept_lengths q n f sp).corners ≡ aside_count sp
unfolding swept_lengths
none_aside [] q n f = refl
none_aside (s ∷ l) q n f = refl

same_edges : (sp : List Spot) (q : Request) (n : ℕ) (f : Fanned) → (swept_lengths q n f sp).edges ≡ length f.edges
unfolding swept_lengths
same_edges [] q n f = refl
same_edges (s ∷ l) q n f = refl

same_events : (sp : List Spot) (q : Request) (n : ℕ) (f : Fanned) → (swept_lengths q n f sp).events ≡ length (unmerged_of (view_in q) f)
unfolding swept_lengths
same_events [] q n f = refl
same_events (s ∷ l) q n f = refl

module _ (q : Request) (n : ℕ) (f : Fanned) where
  abbrev sp : List Spot
  sp = spots_for (view_in q) f

  abbrev many_edges : Bool
  many_edges = ltb q.k.edges (length f.edges)

  abbrev many_found : Bool
  many_found = ltb q.k.events (length f.events)

  abbrev many_events : Bool
  many_events = ltb q.k.events (length (unmerged_of (view_in q) f))

  abbrev many_corners : Bool
  many_corners = ltb q.k.corners (aside_count sp)

  touched : eight_if (many_edges || many_found) 0 ≡ eight_if (scanned q.k q.numbers q.ids (no_rays n (length f.edges) (length f.events) 0 0)) 0
  touched =
      sym (rw (never_longer q.k.corners, never_longer q.k.starts, never_longer q.k.refs, never_longer q.k.samples, never_longer q.numbers, never_longer q.k.owners, never_longer q.k.seen, never_longer q.ids, or-false))

  untouched : eight_if (many_edges || many_found) (eight_if (many_events || many_corners) (eight_if (behind q.k q.numbers q.ids (swept_lengths q n f sp)) 0))
      ≡ eight_if (scanned q.k q.numbers q.ids (swept_lengths q n f sp)) 0
  untouched =
      fanned_by many_edges many_found many_events many_corners (behind q.k q.numbers q.ids (swept_lengths q n f sp)) (more_events q f)
      ∙ sym (rw (same_edges sp q n f, same_events sp q n f, none_aside sp q n f))

  either_way : (t : Bool) → eight_if (many_edges || many_found) (cond t 0 (eight_if (many_events || many_corners) (eight_if (behind q.k q.numbers q.ids (swept_lengths q n f sp)) 0)))
      ≡ eight_if (scanned q.k q.numbers q.ids (cond t (no_rays n (length f.edges) (length f.events) 0 0) (swept_lengths q n f sp))) 0
  either_way true = touched
  either_way false = untouched

  fanned_status : status_of (fanned q f).answer ≡ eight_if (scanned q.k q.numbers q.ids (fanned_lengths q n f)) 0
  unfolding fanned fanned_lengths
  fanned_status =
      eight_or (many_edges || many_found) _
      ∙ ap (eight_if (many_edges || many_found))
      (plain_or f.touch true (view_in q).full _ ∙ ap (cond f.touch 0) (eight_or (many_events || many_corners) _ ∙ ap (eight_if (many_events || many_corners)) (spotted_status q f.candidates n f sp)))
      ∙ either_way f.touch

-- ---- the box query
swept_ids : (q : Request) (n : ℕ) (f : Fanned) (sp : List Spot) → (swept_lengths q n f sp).ids ≡ n
unfolding swept_lengths
swept_ids q n f [] = refl
swept_ids q n f (s ∷ l) = refl

fanned_ids : (q : Request) (n : ℕ) (f : Fanned) → (fanned_lengths q n f).ids ≡ n
unfolding fanned_lengths
fanned_ids q n f = by f.touch
  where
    by : (t : Bool) → (cond t (no_rays n (length f.edges) (length f.events) 0 0) (swept_lengths q n f (spots_for (view_in q) f))).ids ≡ n
    by true = refl
    by false = swept_ids q n f (spots_for (view_in q) f)

module _ (q : Request) (boxes : List Float) (found : List ℕ) (read : ℕ) where
  abbrev lengths : Lengths
  lengths = fanned_lengths q (length found) (fan_in q boxes found)

  staged_status : (ids : List ℕ) → ids ≡ found → status_of (staged_of q boxes ids).answer ≡ eight_if (scanned q.k q.numbers q.ids lengths) 0
  unfolding staged_of
  staged_status ids e = rw e (fanned_status q (length found) (fan_in q boxes found))

  found_by_lem : (t : Bool) → ltb q.k.ids (length found) ≡ t
      → status_of (listed_by (cond t (Err NoListRoom) (counted (length found) read)) q boxes (cond t (replicate q.k.ids 0) (padded 0 q.k.ids found))).answer
      ≡ eight_if (ltb q.k.ids lengths.ids || scanned q.k q.numbers q.ids lengths) 0
  found_by_lem true h = rw (fanned_ids q (length found) (fan_in q boxes found), h)
  found_by_lem false h = rw (fanned_ids q (length found) (fan_in q boxes found), h) (staged_status (take (length found) (padded 0 q.k.ids found)) (take-append_seam found _))

  found_status : status_of (listed_by (query.listing q.k.ids found read) q boxes (query.laid q.k.ids found)).answer ≡ eight_if (some_longer q.k q.numbers q.ids lengths) 0
  found_status = found_by_lem (ltb q.k.ids (length found)) refl

module _ (q : Request) (boxes : List Float) where
  range_status : (g : Grid) (r : Option CellRange) (starts items m : List ℕ) (e : ℕ)
      → status_of (listed_by (query.outcome_by g r starts items m e q.k.ids).answer q boxes (query.outcome_by g r starts items m e q.k.ids).ids).answer
      ≡ eight_if (some_longer q.k q.numbers q.ids (fanned_lengths q (length (query.found_by g r starts items m e)) (fan_in q boxes (query.found_by g r starts items m e)))) 0
  unfolding query.outcome_by query.found_by
  range_status g None starts items m e =
      staged_status q boxes [] 0 [] refl
      ∙ sym (rw (fanned_ids q 0 (fan_in q boxes []), never_longer q.k.ids))
  range_status g (Some r) starts items m e = found_status q boxes (firsts (epoch_after e) (marks_begun e m) (entries_in g r starts items)) (length (entries_in g r starts items))

-- ---- the call, once it is admitted
no_list : (k : Rooms) (numbers ids : ℕ) → some_longer k numbers ids (no_rays 0 0 0 0 0) ≡ false
no_list k numbers ids =
    rw (never_longer k.ids, never_longer k.edges, never_longer k.events, never_longer k.corners, never_longer k.starts, never_longer k.refs, never_longer k.samples, never_longer numbers, never_longer k.owners, never_longer k.seen, never_longer ids)

module _ (s : Site) (t : Tables) (q : Request) (l : Lent) (room : ℕ) (e : room ≡ q.k.ids) where
  planned_status : (p : Plan) → status_of (planned p q t.boxes (look_of p s.grid t.starts t.items l.marks l.epoch room).answer (look_of p s.grid t.starts t.items l.marks l.epoch room).ids).answer
      ≡ eight_if (some_longer q.k q.numbers q.ids (planned_lengths p s t q l)) 0
  unfolding planned look_of planned_lengths query.outcome query.found_of
  planned_status Empty = sym (rw (no_list q.k q.numbers q.ids))
  planned_status Inside = sym (rw (no_list q.k q.numbers q.ids))
  planned_status (Query b) = rw e (range_status q t.boxes s.grid (range_of s.grid b) t.starts t.items l.marks l.epoch)

module _ (s : Site) (t : Tables) (c : ViewCone) (tolerance : Float) (mode : ℕ) (k : Rooms) (l : Lent) where
  abbrev short : Bool
  short = is_short k (length l.floats) (length l.words)

  -- refused as 8, or not
  abbrev too_long : Bool
  too_long = short || some_longer k (length l.outline) (length l.visible) (lengths_of s t c tolerance mode k l)

  -- room that is not short holds the ids that are stated
  whole_ids : short ≡ false → min k.ids (length l.words) ≡ k.ids
  whole_ids e = let fit = short_fit k (length l.floats) (length l.words) e in omega (arith, fit.words_fit)

  drawn_by : (b : Bool) (d : Drawing) (m : Bool) → (b ≡ false → status_of d.answer ≡ eight_if m 0) → status_of (cond b eight d).answer ≡ eight_if (b || m) 0
  drawn_by true d m h = refl
  drawn_by false d m h = h refl

  seen_status : status_of (seen_from_of s t (load_cone_of c) (load_of tolerance) mode k l).answer ≡ eight_if too_long 0
  unfolding seen_from_of drawn_of lengths_of
  seen_status =
      let p = plan_of s.grid t.points t.boxes t.polygons t.starts t.items (load_cone_of c) in
      drawn_by short _ _ (λ e. planned_status s t (request_of k t (load_cone_of c) (load_of tolerance) mode l) l (min k.ids (length l.words)) (whole_ids e) p)

  -- THE NUMBER of an outline's answer
  pub outline_number : status_of (outcome s t c tolerance mode k l).answer ≡ cond (sound_of s t) (cond (asked_in_domain c mode) (cond (ltb (length l.marks) s.polygons) 7 (eight_if too_long 0)) 1) 6
  unfolding outcome admit_of asked
  outline_number = by (sound_of s t) (asked_in_domain c mode) (ltb (length l.marks) s.polygons)
    where
      by : (a b d : Bool)
          → status_of (outcome_by (tests a b d) s t c tolerance mode k l).answer
          ≡ cond a (cond b (cond d 7 (eight_if too_long 0)) 1) 6
      by true true true = refl
      by true true false = seen_status
      by true false d = refl
      by false b d = refl

  -- ---- what 8 asks
  enough : too_long ≡ false → Enough k (length l.floats) (length l.words) (length l.outline) (length l.visible) (lengths_of s t c tolerance mode k l)
  enough e =
      let n = lengths_of s t c tolerance mode k l in
      let a = neither short _ e in
      let b1 = neither (ltb k.ids n.ids) _ a.1 in
      let b2 = neither (ltb k.edges n.edges) _ b1.1 in
      let b3 = neither (ltb k.events n.events) _ b2.1 in
      let b4 = neither (ltb k.corners n.corners) _ b3.1 in
      let b5 = neither (ltb k.starts n.starts) _ b4.1 in
      let b6 = neither (ltb k.refs n.refs) _ b5.1 in
      let b7 = neither (ltb k.samples n.samples) _ b6.1 in
      let b8 = neither (ltb (length l.outline) (2 * n.points)) _ b7.1 in
      let b9 = neither (ltb k.owners n.owners) _ b8.1 in
      let b10 = neither (ltb k.seen n.seen) _ b9.1 in
      record {
        room_fits = short_fit k (length l.floats) (length l.words) a.0;
        ids_fit = ltb-false k.ids n.ids b1.0;
        edges_fit = ltb-false k.edges n.edges b2.0;
        events_fit = ltb-false k.events n.events b3.0;
        corners_fit = ltb-false k.corners n.corners b4.0;
        samples_fit = ltb-false k.samples n.samples b7.0;
        starts_fit = ltb-false k.starts n.starts b5.0;
        refs_fit = ltb-false k.refs n.refs b6.0;
        owners_fit = ltb-false k.owners n.owners b9.0;
        seen_fit = ltb-false k.seen n.seen b10.0;
        points_fit = ltb-false (length l.outline) (2 * n.points) b8.0;
        visible_fit = ltb-false (length l.visible) n.visible b10.1;
      }

  none_long : Enough k (length l.floats) (length l.words) (length l.outline) (length l.visible) (lengths_of s t c tolerance mode k l) → too_long ≡ false
  none_long h =
      let n = lengths_of s t c tolerance mode k l in
      rw (
        le-ltb (length l.floats) (floats_for k) h.room_fits.floats_fit,
        le-ltb (length l.words) (words_for k) h.room_fits.words_fit,
        le-ltb k.ids n.ids h.ids_fit,
        le-ltb k.edges n.edges h.edges_fit,
        le-ltb k.events n.events h.events_fit,
        le-ltb k.corners n.corners h.corners_fit,
        le-ltb k.starts n.starts h.starts_fit,
        le-ltb k.refs n.refs h.refs_fit,
        le-ltb k.samples n.samples h.samples_fit,
        le-ltb (length l.outline) (2 * n.points) h.points_fit,
        le-ltb k.owners n.owners h.owners_fit,
        le-ltb k.seen n.seen h.seen_fit,
        le-ltb (length l.visible) n.visible h.visible_fit,
      )

  -- THE THEOREM
  pub outline_exactly : Exactly (check 6 (Sound s t)
      (check 1 (asked_in_domain c mode ≡ true)
      (check 7 (s.polygons ≤ length l.marks)
      (check 8 (Enough k (length l.floats) (length l.words) (length l.outline) (length l.visible) (lengths_of s t c tolerance mode k l)) passed))))
      (status_of (outcome s t c tolerance mode k l).answer)
  outline_exactly =
      let Held = Enough k (length l.floats) (length l.words) (length l.outline) (length l.visible) (lengths_of s t c tolerance mode k l) in
      let eighth = check 8 Held passed in
      let seventh = check 7 (s.polygons ≤ length l.marks) eighth in
      rw outline_number
      (by_true 6 (Sound s t) (check 1 (asked_in_domain c mode ≡ true) seventh) _ (sound_of s t) refl (sound s t) (tested s t)
      (λ _. by_true 1 (asked_in_domain c mode ≡ true) seventh _ (asked_in_domain c mode) refl (λ i. i) (λ i. i)
      (λ _. by_false 7 (s.polygons ≤ length l.marks) eighth _ (ltb (length l.marks) s.polygons) refl (ltb-false _ _) (le-ltb _ _)
      (λ _. by_false 8 Held passed 0 too_long refl enough none_long (λ _. all_passed)))))

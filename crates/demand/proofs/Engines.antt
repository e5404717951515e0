-- BOTH ENGINES OVER A SITE THAT BUILDING MADE, with fresh stamps and a box in the domain: the outcome is one and the same, whichever engine is asked and whatever room is
-- lent (`engine_is`): the list by first shared cell and then id with its count of entries, or the refusal as 8. The list and the count keep demand 3 (`near_lists`).
-- Document 02, Q-6. Assumes nothing.
use Rattle.std.proofs.Common.{Err, Ok}
use mathlib.Core.Path.{◌≡◌, sym, ap, subst, ◌∙◌}
use mathlib.Core.Logic.{⊎_elim}
use mathlib.Core.Bool.{true, false}
use mathlib.Core.List.{List}
use Prim.Native.Nat.{ℕ, ◌*◌, ◌≤◌, ◌<◌}
use lib.Dec.{ltb}
use lib.ListN.{length, take}
use lib.Seq.{take-append_seam}
use lib.Ieee.{Float}
use Rattle.lists.specs.Parts.{padded}
use Rattle.lists.proofs.Cases.{by_test, lt_or_le}
use Rattle.geom.specs.declared.Aabb.{Aabb}
use Rattle.grid.specs.Range.{range_of}
use Rattle.grid.specs.Stamps.{Fresh}
use Rattle.grid.specs.Query as query
use Rattle.tables.specs.Tables.{span_of}
use Rattle.tables.proofs.Cells.{range_of_lem}
use Rattle.tables.proofs.Whole.{fitted}
use Rattle.tables.proofs.BuiltQuery.{Demand}
use Rattle.site.specs.declared.Site.{Site}
use Rattle.site.specs.Tables.{Tables}
use Rattle.site.specs.Soundness.{sound_of}
use Rattle.site.specs.Domain.{box_in_domain, load_box_of}
use Rattle.site.proofs.SoundLaws as laws
use Rattle.site.proofs.PlainLaws.{plain_tested, sound_plain_lem}
use Rattle.build.specs.Outcome.{outcome, Does, span_at}
use Rattle.build.proofs.BuiltSound.{built_sound}
use Rattle.build.proofs.BuiltIndex.{built_index}
use Rattle.scene.proofs.Near.{asks}
use Rattle.scene.proofs.Refusals.{polygons_near_exactly}
use Rattle.near.specs.Outcome.{Outcome, outcome_in, query_of, plain_of}
use Rattle.near.proofs.TablesNear.{same}
use Rattle.near.proofs.SameSpans.{held_ext, outcome_ext, same_spans}
use Rattle.near.proofs.Exact.{exact}
use Rattle.near.proofs.Refusing.{plain_exactly}
use Rattle.demand.specs.Calls.{Stamps}
use Rattle.demand.specs.Demands.{BoxLists}
use Rattle.demand.specs.Engines.{Engine, tables, plain, near_by, near_in, entries_near, ListsNear}
use Rattle.refusal.specs.declared.Refusal.TheVariants.{NoListRoom}
use Rattle.grid.specs.Query.{counted}
use Rattle.grid.proofs.Numbers.{counted_same}
use Rattle.refusal.specs.Numbers.{status_of}

-- ---- what is not refused was let through
-- a mark for each polygon, where marks are lent
abbrev pub Marked : Engine → Site → Stamps → Type 0
Marked tables s k = s.polygons ≤ length k.marks
Marked plain s k = Unit {0}

pub marked : (e : Engine) (s : Site) (k : Stamps) → s.polygons ≤ length k.marks → Marked e s k
marked tables s k l = l
marked plain s k l = tt

pub let_through : (e : Engine) (s : Site) (t : Tables) (b : Aabb) (k : Stamps) (ids : List ℕ) (m count : ℕ) → (near_by e s t b k ids).answer ≡ counted m count
    → (box_in_domain b ≡ true) × Marked e s k
unfolding near_by
let_through tables s t b k ids m count a = let r = (polygons_near_exactly s t b k.marks k.epoch ids).only 0 (ap status_of a) in (r.1.0, r.1.1.0)
let_through plain s t b k ids m count a = (((plain_exactly s t.points t.polygons b ids).only 0 (ap status_of a)).1.0, tt)

-- ---- the outcome in room for k ids
abbrev pub near_outcome : Site → Tables → Aabb → ℕ → Outcome
near_outcome s t b k = outcome_in (span_at s.grid t.points t.polygons) s.polygons s.grid.cols (range_of s.grid (load_box_of b)) k

-- by its two parts
pair : (o p : Outcome) → o.answer ≡ p.answer → o.ids ≡ p.ids → o ≡ p
pair o p a b = rw (a, b)

-- where it answers, it lists what is near ..
pub lists_near : (s : Site) (t : Tables) (b : Aabb) (k : ℕ) (o : Outcome) → o ≡ near_outcome s t b k → (m count : ℕ) → o.answer ≡ counted m count → ListsNear s t b k o
lists_near s t b k o e m count a = ⊎_elim over fits (by_test (ltb k (length (near_in s t b))))
  where
    over : ltb k (length (near_in s t b)) ≡ true → ListsNear s t b k o
    over l = let r : o.answer ≡ Err NoListRoom = ap (λ (x : Outcome). x.answer) e ∙ rw l in cc

    fits : ltb k (length (near_in s t b)) ≡ false → ListsNear s t b k o
    fits l = record { answer_is = ap (λ (x : Outcome). x.answer) e ∙ rw l; ids_are = ap (λ (x : Outcome). x.ids) e ∙ rw l }

-- .. in front of the lent list
pub listed_near : (s : Site) (t : Tables) (b : Aabb) (k : ℕ) (o : Outcome) (m count : ℕ) → o.answer ≡ counted m count → ListsNear s t b k o
    → (take m o.ids ≡ near_in s t b) × (count ≡ entries_near s t b)
listed_near s t b k o m count a l =
    let q = counted_same (sym a ∙ l.answer_is) in
    (ap (take m) l.ids_are ∙ ap (λ (i : ℕ). take i (padded 0 k (near_in s t b))) q.0 ∙ take-append_seam (near_in s t b) _, q.1)

-- of a query that keeps the demand and is not refused
pub lists_by : (s : Site) (t : Tables) (b : Aabb) (room : ℕ) (o : query.Outcome) → Demand s.grid (span_of s.grid t.boxes) s.polygons b room o
    → (m count : ℕ) → o.answer ≡ counted m count → BoxLists s t b (take m o.ids) count
lists_by s t b room o d m count e = ⊎_elim over fits (lt_or_le room (length d.found))
  where
    over : room < length d.found → BoxLists s t b (take m o.ids) count
    over h = let q : o.answer ≡ Err NoListRoom = (d.over h).0 in cc

    fits : length d.found ≤ room → BoxLists s t b (take m o.ids) count
    fits h =
        let q = counted_same (sym e ∙ (d.fits h).0) in
        let l : take m o.ids ≡ d.found =
        ap (λ (x : List ℕ). take m x) (d.fits h).1 ∙ ap (λ (i : ℕ). take i (padded 0 room d.found)) q.0 ∙ take-append_seam d.found _ in
        subst (λ (x : List ℕ). BoxLists s t b x count) (sym l) (record { each = d.every; once = d.once; no_other = d.only; counted = q.1 })

module _ (width height : Float) (given : List Float) (lens : List ℕ) (lent t : Tables) (s : Site) (d : Does (outcome width height given lens lent) (Ok s) t) where
  module _ (b : Aabb) (k : Stamps) (ids : List ℕ) (i : box_in_domain b ≡ true) where
    sound : sound_of s t ≡ true
    sound = built_sound width height given lens lent t s d

    -- ---- by tables: the first meetings are the list
    tables_are : s.polygons ≤ length k.marks → Fresh k.epoch k.marks → near_by tables s t b k ids ≡ near_outcome s t b (length ids)
    unfolding near_by
    tables_are l f =
        let x = built_index width height given lens lent t s d in
        let w = fitted (span_of s.grid t.boxes) s.polygons s.grid.cols (s.grid.cols * s.grid.rows) lent.starts lent.items s.items t.starts t.items x.built in
        let y = same s.grid (span_of s.grid t.boxes) s.polygons (length lent.starts) (length lent.items) x.buildable.limits w.fit w.room (load_box_of b) k.marks k.epoch (length ids) l f in
        let e = outcome_ext (span_of s.grid t.boxes) (span_at s.grid t.points t.polygons) s.polygons s.grid.cols (same_spans width height given lens lent t s d) (range_of s.grid (load_box_of b)) (length ids) in
        let a = asks s t b k.marks k.epoch ids sound i l in
        pair _ (near_outcome s t b (length ids))
        (ap (λ (o : query.Outcome). o.answer) a ∙ rw (w.starts_is, w.items_is) y.answers ∙ ap (λ (o : Outcome). o.answer) e)
        (ap (λ (o : query.Outcome). o.ids) a ∙ rw (w.starts_is, w.items_is) y.ids ∙ ap (λ (o : Outcome). o.ids) e)

    -- ---- by points and polygons
    plain_is : near_by plain s t b k ids ≡ near_outcome s t b (length ids)
    unfolding near_by plain_of query_of
    plain_is = rw (plain_tested s t.points t.polygons (sound_plain_lem s t (laws.sound s t sound)), i)

    pub engine_is : (e : Engine) → Marked e s k → Fresh k.epoch k.marks → near_by e s t b k ids ≡ near_outcome s t b (length ids)
    engine_is tables l f = tables_are l f
    engine_is plain l f = plain_is

  -- ---- DEMAND 3 OF THE LIST AND THE COUNT, with the ranges that the stored boxes have
  pub near_lists : (b : Aabb) → BoxLists s t (load_box_of b) (near_in s t b) (entries_near s t b)
  near_lists b =
      let h = laws.sound s t (built_sound width height given lens lent t s d) in
      let q = range_of s.grid (load_box_of b) in
      let spans = same_spans width height given lens lent t s d in
      let x = exact (span_at s.grid t.points t.polygons) s.grid.cols s.polygons q
      (λ r is. (range_of_lem s.grid (load_box_of b) r (record { has_cols = h.has_cols; has_rows = h.has_rows; small = h.few_cells }) is).c1_in) h.few_polygons in
      record {
        each = λ id l m. x.every id l (rw (← spans id l) m);
        once = x.once;
        no_other = λ id m. let o = x.only id m in (o.0, rw (spans id o.0) o.1);
        counted = sym (held_ext (span_of s.grid t.boxes) (span_at s.grid t.points t.polygons) s.polygons s.grid.cols spans q);
      }

-- From what the parts leave to the outcome: the ways through `plan_of`, `look` and `seen_from`. Assumes nothing.
use Rattle.std.proofs.Common.{None, Option, Some, Err, Result, Ok}
use mathlib.Core.Path.{◌≡◌, refl, sym, ap, ◌∙◌}
use mathlib.Core.Bool.{Bool, true, false, cond}
use mathlib.Core.List.{List, ◌++◌}
use Prim.Native.Nat.{ℕ, ◌*◌, ◌<◌, ◌≤◌, min}
use native.Mathlib.Omega.{arith}
use borrow.Author.Tests.{ltb-false}
use lib.Dec.{ltb}
use lib.ListN.{get_or, length, take, drop, replicate, length-take}
use lib.Seq.{take-append-le, length-take-le}
use lib.Ieee.{Float}
use Rattle.num.specs.Ops.{zero_f}
use Rattle.lists.specs.Parts.{Has, padded}
use Rattle.lists.proofs.Zeros.{clear_padded}
use Rattle.lists.proofs.Parts.{front_get_d}
use Rattle.geom.specs.declared.Aabb.{Aabb}
use Rattle.grid.specs.declared.Grid.{Grid}
use Rattle.grid.specs.declared.Listing.{Listing}
use Rattle.grid.specs.Range.{range_of}
use Rattle.grid.specs.Stamps.{epoch_after, marks_begun, firsts}
use Rattle.grid.specs.Entries.{entries_in}
use Rattle.grid.specs.Query as query
use Rattle.site.specs.declared.Site.{Site}
use Rattle.site.specs.Tables.{Tables}
use Rattle.site.specs.Soundness.{Sound}
use Rattle.sight.specs.Holding.{polygon_at_of}
use Rattle.cone.specs.declared.ViewCone.{ViewCone}
use Rattle.cone.specs.Cone.{view_of, aabb_of}
use Rattle.room.specs.declared.Rooms.{Rooms}
use Rattle.room.specs.Layout.{is_short}
use Rattle.room.proofs.Kept.{short_fit}
use Rattle.fan.proofs.Scanning.{ready}
use Rattle.view.specs.declared.Plan.{Plan}
use Rattle.view.specs.declared.Plan.TheVariants.{Empty, Inside, Query}
use Rattle.view.specs.Post.{is_empty, plan_of}
use Rattle.stages.specs.Drawing.{Request, Drawing, eight, staged_of}
use Rattle.stages.proofs.Gathers.{fit_kept}
use Rattle.view.proofs.Named.{ids_named}
use Rattle.stages.specs.Shows.{points_in, ids_in, Shows}
use Rattle.view.specs.Outcome.{Lent, lent, out, look_of, Looked, listed_by, planned, drawn_of, Cleared, request_of, seen_from_of, Drawable}
use Rattle.grid.specs.declared.CellRange.{CellRange}
use Rattle.refusal.specs.declared.Refusal.{Refusal}
use Rattle.refusal.specs.declared.Refusal.TheVariants.{NoListRoom}
use Rattle.grid.specs.Query.{counted}
use Rattle.stages.specs.declared.Shown.{Shown}
use Rattle.grid.proofs.Numbers.{counted_same}

-- ---- `plan_of`
module _ (g : Grid) (points boxes : List Float) (polygons starts items : List ℕ) (c : ViewCone) where
  pub plan_empty : is_empty (view_of c) ≡ true → Empty ≡ plan_of g points boxes polygons starts items c
  unfolding plan_of
  plan_empty e = rw e

  pub plan_inside : {w : (Option ℕ)} {k : ℕ} → is_empty (view_of c) ≡ false → w ≡ polygon_at_of g points boxes polygons starts items c.origin → w ≡ Some k → Inside ≡ plan_of g points boxes polygons starts items c
  unfolding plan_of
  plan_inside e f h = rw (e, ← f, h)

  pub plan_query : {w : (Option ℕ)} {b : Aabb} → is_empty (view_of c) ≡ false → w ≡ polygon_at_of g points boxes polygons starts items c.origin → w ≡ None → b ≡ aabb_of c → Query b ≡ plan_of g points boxes polygons starts items c
  unfolding plan_of
  plan_query e f h d = rw (e, ← f, h, d)

-- ---- `look`
listed_long : (k : ℕ) (found : List ℕ) (read n r : ℕ) → query.listing k found read ≡ counted n r → n ≤ k
listed_long k found read n r e = by (ltb k (length found)) refl e
  where
    by : (t : Bool) → ltb k (length found) ≡ t → cond t (Err NoListRoom) (counted (length found) read) ≡ counted n r → n ≤ k
    by true h q = cc
    by false h q = let z : length found ≡ n = (counted_same q).0 in omega (arith, ltb-false k (length found) h)

pub query_fits : (g : Grid) (b : Aabb) (starts items m : List ℕ) (e room n read : ℕ) → (query.outcome g b starts items m e room).answer ≡ counted n read → n ≤ room
unfolding query.outcome query.outcome_by
query_fits g b starts items m e room n read h = by (range_of g b) h
  where
    by : (r : (Option CellRange)) → (query.outcome_by g r starts items m e room).answer ≡ counted n read → n ≤ room
    by None q = let z : 0 ≡ n = (counted_same q).0 in omega arith
    by (Some r) q = listed_long room (firsts (epoch_after e) (marks_begun e m) (entries_in g r starts items)) (length (entries_in g r starts items)) n read q

module _ (g : Grid) (starts items m : List ℕ) (e room : ℕ) (w : List ℕ) where
  pub look_empty : {p : Plan} → p ≡ Empty → Looked (look_of p g starts items m e room) (counted 0 0) m e w
  unfolding look_of
  look_empty h = rw h (record { is = refl; stamps = refl; epoch_is = refl; ids = λ n read q. let z : 0 ≡ n = (counted_same q).0 in rw (← z) })

  pub look_inside : {p : Plan} → p ≡ Inside → Looked (look_of p g starts items m e room) (counted 0 0) m e w
  unfolding look_of
  look_inside h = rw h (record { is = refl; stamps = refl; epoch_is = refl; ids = λ n read q. let z : 0 ≡ n = (counted_same q).0 in rw (← z) })

  pub look_query : {p : Plan} {b : Aabb} (j : ℕ) {r : (Result Listing Refusal)} {m' : List ℕ} {e' : ℕ} {ids w' : List ℕ} → p ≡ Query b → room ≤ length w → j ≡ room → length ids ≡ length (take j w)
      → query.Is (query.outcome g b starts items m e (length (take j w))) r m' e' ids → w' ≡ ids ++ drop j w → Looked (look_of p g starts items m e room) r m' e' w'
  unfolding look_of
  look_query {b = b} j {r} {m'} {e'} {ids} h l hj long i₀ u =
      let z : length (take j w) ≡ room = length-take-le j w (omega arith) ∙ hj in
      let i : query.Is (query.outcome g b starts items m e room) r m' e' ids = rw z at i₀ in
      rw h (record {
        is = i.answer_is;
        stamps = i.marks_are;
        epoch_is = i.epoch_is;
        ids = λ n read q. ap (take n) u ∙ take-append-le n ids (drop j w) (omega (arith, long, z, query_fits g b starts items m e room n read q)) ∙ ap (take n) i.ids_are;
      })

-- ---- what `drawn` asks
look_named : (site : Site) (t : Tables) → Sound site t → (p : Plan) (m : List ℕ) (e room n read j : ℕ) → (look_of p site.grid t.starts t.items m e room).answer ≡ counted n read → j < n
    → (get_or (look_of p site.grid t.starts t.items m e room).ids j 0 < site.polygons) × (n ≤ room)
unfolding look_of
look_named site t S Empty m e room n read j q l = let z : 0 ≡ n = (counted_same q).0 in absurd (omega arith)
look_named site t S Inside m e room n read j q l = let z : 0 ≡ n = (counted_same q).0 in absurd (omega arith)
look_named site t S (Query b) m e room n read j q l = (ids_named site t S b m e room n read j q l, query_fits site.grid b t.starts t.items m e room n read q)

look_fits : (p : Plan) (g : Grid) (starts items m : List ℕ) (e room n read : ℕ) → (look_of p g starts items m e room).answer ≡ counted n read → n ≤ room
unfolding look_of
look_fits Empty g starts items m e room n read q = let z : 0 ≡ n = (counted_same q).0 in omega arith
look_fits Inside g starts items m e room n read q = let z : 0 ≡ n = (counted_same q).0 in omega arith
look_fits (Query b) g starts items m e room n read q = query_fits g b starts items m e room n read q

front_at : (n j : ℕ) (w l : List ℕ) → j < n → take n w ≡ take n l → get_or w j 0 ≡ get_or l j 0
front_at n j w l h e = front_get_d n w l j 0 h e

module _ (site : Site) (t : Tables) (S : Sound site t) (k : Rooms) (p : Plan) (m : List ℕ) (e room : ℕ) (f : List Float) (w w' : List ℕ) (short : Bool) (a : (Result Listing Refusal)) (m' : List ℕ) (e' : ℕ)
    (hs : short ≡ is_short k (length f) (length w)) (hr : room ≡ min k.ids (length w)) (hw : length w' ≡ length w)
    (L : Looked (look_of p site.grid t.starts t.items m e room) a m' e' w') where
  pub drawable : Drawable short k t.polygons a f w'
  drawable h n read q =
      let fit = short_fit k (length f) (length w) (sym hs ∙ h) in
      let is = sym L.is ∙ q in
      ready site t S k n f w' (fit_kept (length f) (length w') refl hw fit)
      (omega (arith, look_fits p site.grid t.starts t.items m e room n read is, hr))
      (λ j l. rw (front_at n j w' _ l (L.ids n read is)) (look_named site t S p m e room n read j is l).0)

-- ---- the drawing from the words is the drawing from the query's list
listed_same : (a : (Result Listing Refusal)) (q : Request) (boxes : List Float) (w l : List ℕ) → ((n read : ℕ) → a ≡ counted n read → take n w ≡ take n l) → listed_by a q boxes w ≡ listed_by a q boxes l
listed_same (Ok x) q boxes w l h = ap (staged_of q boxes) (h x.written x.read refl)
listed_same (Err r) q boxes w l h = refl

planned_same : (p : Plan) (a : (Result Listing Refusal)) (q : Request) (boxes : List Float) (w l : List ℕ) → ((n read : ℕ) → a ≡ counted n read → take n w ≡ take n l) → planned p q boxes a w ≡ planned p q boxes a l
unfolding planned
planned_same Empty a q boxes w l h = refl
planned_same Inside a q boxes w l h = refl
planned_same (Query b) a q boxes w l h = listed_same a q boxes w l h

drawn_same : (short : Bool) (p : Plan) (a : (Result Listing Refusal)) (q : Request) (boxes : List Float) (w l : List ℕ) → ((n read : ℕ) → a ≡ counted n read → take n w ≡ take n l)
    → drawn_of short p q boxes a w ≡ drawn_of short p q boxes a l
unfolding drawn_of
drawn_same short p a q boxes w l h = ap (cond short eight) (planned_same p a q boxes w l h)

-- ---- the points of an answer fit its outline
has_long : {A : Type 0} (l xs : List A) → Has l 0 xs → length xs ≤ length l
has_long l xs e = omega (arith, ap length e, length-take (length xs) l)

out_is : {a a' : (Result Shown Refusal)} {m m' : List ℕ} {e e' : ℕ} {f f' : List Float} {w w' : List ℕ} {o o' : List Float} {i i' : List ℕ}
    → a ≡ a' → m ≡ m' → e ≡ e' → f ≡ f' → w ≡ w' → o ≡ o' → i ≡ i' → out a (lent m e f w o i) ≡ out a' (lent m' e' f' w' o' i')
out_is p q r s t u v = rw (p, q, r, s, t, u, v)

pub shows_fits : {d : Drawing} {a : (Result Shown Refusal)} (o : List Float) (i : List ℕ) → Shows d a o i → 2 * points_in a ≤ length o
shows_fits {d} {a} o i S = let e : 2 * points_in a ≡ length d.pts = ap (λ (x : (Result Shown Refusal)). 2 * points_in x) S.is ∙ S.points_many in omega (arith, has_long o d.pts S.points_laid)

-- ---- `seen_from`
module _ (site : Site) (t : Tables) (c : ViewCone) (tolerance : Float) (mode : ℕ) (k : Rooms) (l : Lent) {p : Plan} {short : Bool} {room : ℕ} {ids : (Result Listing Refusal)} {m1 : List ℕ} {e1 : ℕ} {w1 : List ℕ} {a : (Result Shown Refusal)}
    {f1 : List Float} {wz : List ℕ} {o1 : List Float} {v1 : List ℕ} {f2 : List Float} {w2 : List ℕ} {o2 : List Float} {v2 : List ℕ}
    (hp : p ≡ plan_of site.grid t.points t.boxes t.polygons t.starts t.items c) (hs : short ≡ is_short k (length l.floats) (length l.words)) (hr : room ≡ min k.ids (length l.words))
    (L : Looked (look_of p site.grid t.starts t.items l.marks l.epoch room) ids m1 e1 w1)
    (D : Shows (drawn_of short p (request_of k t c tolerance mode l) t.boxes ids w1) a o1 v1)
    (lf : length f1 ≡ length l.floats) (lw : length wz ≡ length l.words) (lo : length o1 ≡ length l.outline) (lv : length v1 ≡ length l.visible)
    (Z : Cleared a f1 wz o1 v1 f2 w2 o2 v2) where
  abbrev asked_by : query.Outcome
  asked_by = look_of p site.grid t.starts t.items l.marks l.epoch room

  abbrev d : Drawing
  d = drawn_of short p (request_of k t c tolerance mode l) t.boxes ids w1

  outline_is : o2 ≡ padded zero_f (length l.outline) d.pts
  outline_is = clear_padded zero_f o1 d.pts (2 * points_in a) (ap (λ (x : (Result Shown Refusal)). 2 * points_in x) D.is ∙ D.points_many) D.points_laid (sym lo) Z.outline

  visible_is : v2 ≡ padded 0 (length l.visible) d.ids
  visible_is = clear_padded 0 v1 d.ids (ids_in a) (ap ids_in D.is ∙ D.ids_many) D.ids_laid (sym lv) Z.visible

  same : d ≡ drawn_of (is_short k (length l.floats) (length l.words)) p (request_of k t c tolerance mode l) t.boxes asked_by.answer asked_by.ids
  same =
      drawn_same short p ids (request_of k t c tolerance mode l) t.boxes w1 asked_by.ids (λ n read q. L.ids n read (sym L.is ∙ q))
      ∙ ap (λ (s : Bool). drawn_of s p (request_of k t c tolerance mode l) t.boxes ids asked_by.ids) hs
      ∙ ap (λ (x : (Result Listing Refusal)). drawn_of (is_short k (length l.floats) (length l.words)) p (request_of k t c tolerance mode l) t.boxes x asked_by.ids) L.is

  pub seen_is : out a (lent m1 e1 f2 w2 o2 v2) ≡ seen_from_of site t c tolerance mode k l
  unfolding seen_from_of
  seen_is =
      rw (← hp, ← hr)
      (out_is (D.is ∙ ap (λ (x : Drawing). x.answer) same) L.stamps L.epoch_is (Z.floats ∙ ap (λ (n : ℕ). replicate n zero_f) lf) (Z.words ∙ ap (λ (n : ℕ). replicate n 0) lw)
      (outline_is ∙ ap (λ (x : Drawing). padded zero_f (length l.outline) x.pts) same) (visible_is ∙ ap (λ (x : Drawing). padded 0 (length l.visible) x.ids) same))

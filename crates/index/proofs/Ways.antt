-- Each way through `clip`, `span_buckets`, `ends_at`, `lower`, `meet`, `stops` and `ties`, over plain values: the tests and the callees' answers as equations. Assumes nothing.
use Rattle.std.proofs.Common.{◌≡◌, ℕ, ◌+◌, ◌*◌, Bool, true, false, cond, eqb, List, [], get_or, sym, refl, ap, ◌∙◌, ⊎_elim, arith, min, le-ltb, lt-ltb, eq-eqb, ne_eqb, None, Option, Some}
use lib.Ieee.{Float, nan, lt, le, eq}
use Rattle.lists.proofs.Cases.{lt_or_le}
use Rattle.num.specs.Ops.{◌⊕◌, ◌⊖◌, zero_f}
use Rattle.num.specs.Num.{min_of, max_of}
use Rattle.geom.specs.Constants.{tau, nano}
use Rattle.geom.specs.Vec.{vec}
use Rattle.geom.specs.Segment.{ray_segment_within}
use Rattle.geom.specs.declared.Vec2.{Vec2}
use Rattle.site.specs.Meets.{met_at}
use Rattle.room.specs.declared.Rooms.{Rooms}
use Rattle.room.specs.Layout.{edges_f}
use Rattle.room.specs.Records.{edge_at}
use Rattle.index.specs.declared.AngularIndex.{AngularIndex}
use Rattle.index.specs.declared.Stretch.{Stretch}
use Rattle.index.specs.declared.Spans.{Spans}
use Rattle.index.specs.declared.Best.{Best}
use Rattle.index.specs.declared.Ends.{Ends}
use Rattle.index.specs.Spans.{bucket_of, stretch, both, clip_of, spans_by}
use Rattle.index.specs.Casting.{best_of, lower_in, lower_of, better_of, stop_of, ties_at}
use Rattle.index.specs.Filling.{spans_at}

module _ (x : AngularIndex) (total lo hi : Float) {l h : Float} (hl : l ≡ max_of (lo ⊖ nano) zero_f) (hh : h ≡ min_of (hi ⊕ nano) total) where
  pub clip_some : le l h ≡ true → {p q : ℕ} → p ≡ bucket_of x l → q ≡ bucket_of x h → stretch p (q + 1) ≡ clip_of x total lo hi
  unfolding clip_of
  clip_some e hp hq = cc

  pub clip_none : le l h ≡ false → stretch 0 0 ≡ clip_of x total lo hi
  unfolding clip_of
  clip_none e = cc

module _ (x : AngularIndex) (total start len : Float) where
  pub span_one : le (start ⊕ len) tau ≡ true → {p : Stretch} → p ≡ clip_of x total start (start ⊕ len) → both p (stretch 0 0) ≡ spans_by x total start len
  unfolding spans_by
  span_one e hp = cc

  pub span_two : le (start ⊕ len) tau ≡ false → {p q : Stretch} → p ≡ clip_of x total start tau → q ≡ clip_of x total zero_f (start ⊕ len ⊖ tau) → both p q ≡ spans_by x total start len
  unfolding spans_by
  span_two e hp hq = cc

-- the numbers of an edge
module _ (k : Rooms) (floats : List Float) (i : ℕ) {f n : ℕ} (hf : f ≡ edges_f k) (hn : n ≡ i) where
  pub ends_read : (vec (get_or floats (f + 6 * n) nan) (get_or floats (f + 6 * n + 1) nan) ≡ (edge_at k floats [] i).a)
      × (vec (get_or floats (f + 6 * n + 2) nan) (get_or floats (f + 6 * n + 3) nan) ≡ (edge_at k floats [] i).b)
  unfolding edge_at
  ends_read = (cc, cc)

  pub ends_at_by : {p q r s : Float} → p ≡ get_or floats (f + 6 * n) nan → q ≡ get_or floats (f + 6 * n + 1) nan → r ≡ get_or floats (f + 6 * n + 2) nan → s ≡ get_or floats (f + 6 * n + 3) nan
      → (vec p q ≡ (edge_at k floats [] i).a) × (vec r s ≡ (edge_at k floats [] i).b)
  unfolding edge_at
  ends_at_by hp hq hr hs = (cc, cc)

  pub spans_read : (x : AngularIndex) (total : Float) {p q : Float} {r : Spans} → p ≡ get_or floats (f + 6 * n + 4) nan → q ≡ get_or floats (f + 6 * n + 5) nan → r ≡ spans_by x total p q
      → r ≡ spans_at k floats x total i
  unfolding edge_at spans_at
  spans_read x total hp hq e = e ∙ rw (hp, hq, hf, hn)

-- of equal distances
module _ (mode edge : ℕ) (b : Best) where
  pub lower_so : (mode ≡ 0 → ⊥) → (e : ℕ) → b.edge ≡ Some e → record { t = b.t; edge = Some (min edge e); tied = true } ≡ lower_of mode edge b
  lower_so h e f = rw (ne_eqb mode 0 h, f)
      (⊎_elim
      (λ l. let m : min edge e ≡ edge = omega arith in rw (lt-ltb edge e l, m))
      (λ l. let m : min edge e ≡ e = omega arith in rw (le-ltb edge e l, m))
      (lt_or_le edge e))

  pub lower_rust : mode ≡ 0 → b ≡ lower_of mode edge b
  lower_rust h = rw (eq-eqb mode 0 h)

  pub lower_none : b.edge ≡ None → b ≡ lower_of mode edge b
  lower_none f = by (eqb mode 0)
    where
      by : (z : Bool) → b ≡ cond z b (lower_in b.edge edge b)
      by true = refl
      by false = rw f

-- an edge so near
pub stop_rust : (mode : ℕ) → mode ≡ 0 → (best near : Float) → le best near ≡ stop_of mode best near
stop_rust mode e best near = rw (eq-eqb mode 0 e)

pub stop_ties : (mode : ℕ) → (mode ≡ 0 → ⊥) → (best near : Float) → lt best near ≡ stop_of mode best near
stop_ties mode h best near = rw (ne_eqb mode 0 h)

-- the better of two
module _ (mode : ℕ) (b : Best) (edge : ℕ) {s r : (Option Float)} (hr : r ≡ s) where
  pub meet_hit : {t : Float} → r ≡ Some t → lt t b.t ≡ true → {n : ℕ} → n ≡ edge → best_of t n ≡ better_of mode s edge b
  meet_hit e y hn = rw (sym hr ∙ e, y, hn)

  pub meet_tie : {t : Float} → r ≡ Some t → lt t b.t ≡ false → eq t b.t ≡ true → {n : ℕ} → n ≡ edge → {q : Best} → q ≡ lower_of mode n b → q ≡ better_of mode s edge b
  meet_tie e y z hn hq = rw (sym hr ∙ e, y, z) (hq ∙ ap (λ (i : ℕ). lower_of mode i b) hn)

  pub meet_far : {t : Float} → r ≡ Some t → lt t b.t ≡ false → eq t b.t ≡ false → b ≡ better_of mode s edge b
  meet_far e y z = rw (sym hr ∙ e, y, z)

  pub meet_past : r ≡ None → b ≡ better_of mode s edge b
  meet_past e = rw (sym hr ∙ e)

-- the edge is met there
module _ (t : Float) {s r : (Option Float)} (hr : r ≡ s) where
  pub tie_hit : {u : Float} → r ≡ Some u → eq u t ≡ met_at t s
  tie_hit e = rw (sym hr ∙ e)

  pub tie_past : r ≡ None → false ≡ met_at t s
  tie_past e = rw (sym hr ∙ e)

pub tie_is : (slack : Float) (o dir : Vec2) (t : Float) (k : Rooms) (floats : List Float) (i : ℕ) {e : Ends} → (e.a ≡ (edge_at k floats [] i).a) × (e.b ≡ (edge_at k floats [] i).b)
    → {q : Bool} → q ≡ met_at t (ray_segment_within slack o dir e.a e.b) → q ≡ ties_at slack o dir t (edge_at k floats [] i)
unfolding ties_at
tie_is slack o dir t k floats i (ha, hb) hq = hq ∙ rw (ha, hb)

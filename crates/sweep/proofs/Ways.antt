-- Each way through the functions of one sample and of two, over plain values, and their counts; and the turns of an arc. Assumes nothing.
use Rattle.std.proofs.Common.{◌≡◌, ℕ, suc, ◌+◌, ◌-◌, ◌*◌, ◌<◌, ◌≤◌, Bool, true, false, List, [], ◌∷◌, ◌++◌, length, get_or, sym, refl, ap, ◌∙◌, subst, add-one, arith, le-ltb, lt-ltb, eq-eqb, ne_eqb, eqb-true, None, Option, Some}
use lib.Ieee.{Float, nan, lt}
use Rattle.num.specs.Ops.{◌⊕◌, ◌⊖◌, ◌⊗◌, ◌⊘◌}
use Rattle.lists.specs.Parts.{part}
use Rattle.geom.specs.declared.Vec2.{Vec2}
use Rattle.geom.specs.Vec.{from_angle_of}
use Rattle.grid.specs.Range.{count_f}
use Rattle.room.specs.declared.Rooms.{Rooms}
use Rattle.room.specs.declared.Sample.{Sample}
use Rattle.room.specs.Layout.{distances_f, samples_w, order_w, seen_w}
use Rattle.room.specs.Records.{cast_from, sample_at, dir_at, tie_at, Noted}
use Rattle.cone.specs.declared.View.{View}
use Rattle.cone.specs.Cone.{three}
use Rattle.index.specs.declared.AngularIndex.{AngularIndex}
use Rattle.index.specs.Stands.{index_in}
use Rattle.outline.specs.declared.Trace.{Trace}
use Rattle.outline.specs.Outline.{corner, none, Out, out, push_of, Pushed, Own, owned, Room, Grown}
use Rattle.credit.specs.Credit.{further_of, credits_of, own_all, Raised}
use Rattle.credit.proofs.Ways.{all_joined}
use Rattle.refining.specs.Refine.{along_of, point_of, credits_for, further_in, credits_in, Env, env_in, Run, run_at, end_of, refine_of, Ready, Done}
use Rattle.refining.proofs.Ways.{along_is}
use Rattle.seen.specs.Seen.{scene, see_of}
use Rattle.seen.proofs.Pushes.{pushed_none, pushed_more}
use Rattle.std.specs.Prelude.{Option, Some, None}
use Rattle.room.specs.Constants.{angle_eps}
use Rattle.sweep.specs.Sweep.{sample_in, dir_in, tie_in, itself, Spared, is_pair, turned, next_in, emit_of, Emitted, steps_of, arc_point, arc_of, gap_of, Course, between_of, visit_of, with_post, begin_of, sweep_of, Swept}
use Rattle.site.specs.Hits.{hit_at}
use Rattle.site.specs.declared.RayHit.{RayHit}

-- ---- the samples
pub sample_is : (k : Rooms) (floats : List Float) (words : List ℕ) (i : ℕ) {a j m : ℕ} {s : Sample} → a ≡ order_w k → j ≡ i → m ≡ get_or words (a + j) 0 → s ≡ sample_at k floats words m
    → s ≡ sample_in k floats words i
unfolding sample_in
sample_is k floats words i {a} {j} ha hj hm hs = hs ∙ ap (sample_at k floats words) (hm ∙ ap (λ (q : ℕ). get_or words (q + j) 0) ha ∙ ap (λ (q : ℕ). get_or words (order_w k + q) 0) hj)

pub dir_is : (k : Rooms) (floats : List Float) (words : List ℕ) (i : ℕ) {a j m : ℕ} {d : Vec2} → a ≡ order_w k → j ≡ i → m ≡ get_or words (a + j) 0 → d ≡ dir_at k floats m → d ≡ dir_in k floats words i
unfolding dir_in
dir_is k floats words i {a} {j} ha hj hm hd = hd ∙ ap (dir_at k floats) (hm ∙ ap (λ (q : ℕ). get_or words (q + j) 0) ha ∙ ap (λ (q : ℕ). get_or words (order_w k + q) 0) hj)

pub tie_is : (k : Rooms) (words : List ℕ) (i : ℕ) {a j m : ℕ} {b : Bool} → a ≡ order_w k → j ≡ i → m ≡ get_or words (a + j) 0 → b ≡ tie_at k words m → b ≡ tie_in k words i
unfolding tie_in
tie_is k words i {a} {j} ha hj hm hb = hb ∙ ap (tie_at k words) (hm ∙ ap (λ (q : ℕ). get_or words (q + j) 0) ha ∙ ap (λ (q : ℕ). get_or words (order_w k + q) 0) hj)

-- a sample for which a tie is noted hits
tie_hit : (k : Rooms) (floats : List Float) (words : List ℕ) (i : ℕ) → tie_in k words i ≡ true → (t : Float) × (e : ℕ) × ((sample_in k floats words i).hit ≡ hit_at t e)
unfolding tie_in sample_in tie_at sample_at
tie_hit k floats words i h =
    let j = get_or words (order_w k + i) 0 in
    let two : get_or words (samples_w k + 4 * j + 2) 0 ≡ 2 = eqb-true (get_or words (samples_w k + 4 * j + 2) 0) 2 h in
    (get_or floats (distances_f k + j) nan, get_or words (samples_w k + 4 * j + 3) 0, ap (λ (q : ℕ). cast_from q (get_or floats (distances_f k + j) nan) (get_or words (samples_w k + 4 * j + 3) 0)) two)

module _ (full : Bool) (at : ℕ → Sample) (n i : ℕ) {s : Sample} where
  pub next_more : i + 1 < n → s ≡ at (i + 1) → Some s ≡ next_in full at n i
  unfolding next_in
  next_more h e = rw (lt-ltb (i + 1) n h, e)

  pub next_turn : n ≤ i + 1 → full ≡ true → s ≡ at 0 → Some (turned s) ≡ next_in full at n i
  unfolding next_in
  next_turn h f e = rw (le-ltb (i + 1) n h, f, e)

pub next_last : (full : Bool) (at : ℕ → Sample) (n i : ℕ) → n ≤ i + 1 → full ≡ false → None ≡ next_in full at n i
unfolding next_in
next_last full at n i h f = rw (le-ltb (i + 1) n h, f)

-- ---- `emit`
-- the point along the sample's direction
pub emit_point : (view : View) (a : Sample) {d p : Vec2} → d ≡ from_angle_of (view.start ⊕ a.angle) → p ≡ along_of view d a.hit → p ≡ point_of view a.angle a.hit
emit_point view a hd hp = hp ∙ ap (λ (q : Vec2). along_of view q a.hit) hd ∙ along_is view a.angle a.hit

module _ (view : View) (room : ℕ) (owners : List ℕ) (credits : Float → ℕ → List ℕ) (a : Sample) (pts : List Float) (marks : List ℕ) (s : Trace) {p : Vec2} (hp : p ≡ point_of view a.angle a.hit) where
  pub emit_hit : {t : Float} {e : ℕ} → a.hit ≡ hit_at t e → {m2 : List ℕ} {s2 : Trace} → owned m2 s2 ≡ own_all room owners (credits a.angle e) marks s
      → {p3 : List Float} {s3 : Trace} → out p3 s3 ≡ push_of view.o p e pts s2 → run_at p3 m2 s3 ≡ emit_of view room owners credits a (run_at pts marks s)
  unfolding emit_of
  emit_hit {t} {e} x {m2} {s2} h2 {p3} {s3} h3 =
      let q : p ≡ point_of view a.angle (hit_at t e) = hp ∙ ap (point_of view a.angle) x in
      rw x
      (ap (λ (u : Out). run_at u.pts m2 u.at) (h3 ∙ ap (λ (y : Vec2). push_of view.o y e pts s2) q)
      ∙ ap
      (λ (w : Own). run_at (push_of view.o (point_of view a.angle (hit_at t e)) e pts w.at).pts w.marks (push_of view.o (point_of view a.angle (hit_at t e)) e pts w.at).at)
      h2)

  pub emit_miss : a.hit ≡ None → {p2 : List Float} {s2 : Trace} → out p2 s2 ≡ push_of view.o p corner pts s → run_at p2 marks s2 ≡ emit_of view room owners credits a (run_at pts marks s)
  unfolding emit_of
  emit_miss x {p2} {s2} h =
      let q : p ≡ point_of view a.angle None = hp ∙ ap (point_of view a.angle) x in
      rw x (ap (λ (u : Out). run_at u.pts marks u.at) (h ∙ ap (λ (y : Vec2). push_of view.o y corner pts s) q))

pub pushed_room : {l room : ℕ} {s r : Trace} → Room room s → Pushed l s r → Room room r
pushed_room h q = record { most = omega (arith, h.most, q.owners); within = λ z. omega (arith, h.within (q.open_before z), q.owners) }

pub emitted_miss : {l room : ℕ} {s r : Trace} → Room room s → Pushed l s r → Emitted l room s r
emitted_miss h q = record { points = q.within; owners = pushed_room h q; up = omega (arith, q.owners); casts = q.refinements }

pub emitted_hit : {l room : ℕ} {s t r : Trace} → Grown room s t → Pushed l t r → Emitted l room s r
emitted_hit g q = record { points = q.within; owners = pushed_room g.entries q; up = omega (arith, g.up, q.owners); casts = q.refinements ∙ g.refinements }

-- ---- the further credits
pub further_is : (k : Rooms) (x : AngularIndex) (floats : List Float) (words owners : List ℕ) (view : View) (i room : ℕ) (marks : List ℕ) (s : Trace)
    → dir_in k floats words i ≡ from_angle_of (view.start ⊕ (sample_in k floats words i).angle) → {a : Sample} {d : Vec2} → a ≡ sample_in k floats words i → d ≡ dir_in k floats words i
    → {r : Own} → r ≡ own_all room owners (further_of (index_in k floats words x) owners view.o a.angle d view.r) marks s
    → r ≡ own_all room owners (further_in k x floats words owners view (sample_in k floats words i).angle) marks s
further_is k x floats words owners view i room marks s h {a} {d} ha hd e =
    e
    ∙ ap (λ (q : Sample). own_all room owners (further_of (index_in k floats words x) owners view.o q.angle d view.r) marks s) ha
    ∙ ap (λ (q : Vec2). own_all room owners (further_of (index_in k floats words x) owners view.o (sample_in k floats words i).angle q view.r) marks s) (hd ∙ h)

-- all the credits are the further ones and the edge
module _ (k : Rooms) (x : AngularIndex) (floats : List Float) (words owners : List ℕ) (view : View) where
  abbrev credits : Float → ℕ → List ℕ
  credits = credits_in k x floats words owners view

  joined : (g : Float) (e : ℕ) → credits g e ≡ further_in k x floats words owners view g ++ (e ∷ [])
  unfolding credits_for credits_of
  joined g e = refl

  -- so its own, behind the further ones, makes them all
  module _ (room : ℕ) (a : Sample) (pts : List Float) (marks : List ℕ) (s : Trace) where
    itself_behind : {t : Float} {e : ℕ} → a.hit ≡ hit_at t e → {m : List ℕ} {u : Trace} → owned m u ≡ own_all room owners (further_in k x floats words owners view a.angle) marks s
        → emit_of view room owners itself a (run_at pts m u) ≡ emit_of view room owners credits a (run_at pts marks s)
    unfolding emit_of
    itself_behind {t} {e} hit {m} {u} h =
        let both : own_all room owners (e ∷ []) m u ≡ own_all room owners (credits a.angle e) marks s
        = ap (λ (y : Own). own_all room owners (e ∷ []) y.marks y.at) h
        ∙ sym (all_joined room owners (further_in k x floats words owners view a.angle) (e ∷ []) marks s)
        ∙ ap (λ (l : List ℕ). own_all room owners l marks s) (sym (joined a.angle e)) in
        rw hit
        (ap
        (λ (w : Own). run_at (push_of view.o (point_of view a.angle (hit_at t e)) e pts w.at).pts w.marks (push_of view.o (point_of view a.angle (hit_at t e)) e pts w.at).at)
        both)

    itself_alone : further_in k x floats words owners view a.angle ≡ [] → emit_of view room owners itself a (run_at pts marks s) ≡ emit_of view room owners credits a (run_at pts marks s)
    unfolding emit_of
    itself_alone none = by a.hit refl
      where
        by : (c : (Option RayHit)) → a.hit ≡ c → emit_of view room owners itself a (run_at pts marks s) ≡ emit_of view room owners credits a (run_at pts marks s)
        by (Some q) h = itself_behind h (ap (λ (l : List ℕ). own_all room owners l marks s) (sym none))
        by None h = rw h refl

-- ---- what stands in front of the sample i: where a tie is noted its further credits, otherwise nothing
pub record Fore (k : Rooms) (x : AngularIndex) (floats : List Float) (words owners : List ℕ) (view : View) (i : ℕ) (pts : List Float) (marks : List ℕ) (s : Trace) (m : List ℕ) (u : Trace) : Type 0 where
  pub long : length m ≡ length marks
  pub counts : Raised k.owners s u
  pub same : emit_of view k.owners owners itself (sample_in k floats words i) (run_at pts m u) ≡ emit_of view k.owners owners (credits_in k x floats words owners view) (sample_in k floats words i) (run_at pts marks s)

module _ (k : Rooms) (x : AngularIndex) (floats : List Float) (words owners : List ℕ) (view : View) (i : ℕ) (pts : List Float) (marks : List ℕ) (s : Trace) {w : ℕ} (hw : w ≡ seen_w k) {b : Bool} (hb : b ≡ tie_in k (part 0 w words) i) where
  tie_front : b ≡ tie_in k (part 0 (seen_w k) words) i
  tie_front = hb ∙ ap (λ (q : ℕ). tie_in k (part 0 q words) i) hw

  pub fore_tied : b ≡ true → {m : List ℕ} {u : Trace} → length m ≡ length marks → Raised k.owners s u
      → owned m u ≡ own_all k.owners owners (further_in k x floats (part 0 w words) owners view (sample_in k floats (part 0 w words) i).angle) marks s
      → Fore k x floats (part 0 (seen_w k) words) owners view i pts marks s m u
  fore_tied is l r h =
      let (t, e, hit) = tie_hit k floats (part 0 (seen_w k) words) i (sym tie_front ∙ is) in
      record {
        long = l;
        counts = r;
        same = itself_behind k x floats (part 0 (seen_w k) words) owners view k.owners (sample_in k floats (part 0 (seen_w k) words) i) pts marks s hit
            (h ∙ ap (λ (q : ℕ). own_all k.owners owners (further_in k x floats (part 0 q words) owners view (sample_in k floats (part 0 q words) i).angle) marks s) hw);
      }

  pub fore_alone : b ≡ false → (n : ℕ) → i < n → Room k.owners s → Noted k view.start (Spared k x floats (part 0 (seen_w k) words) owners view) floats (part 0 (seen_w k) words) n
      → Fore k x floats (part 0 (seen_w k) words) owners view i pts marks s marks s
  unfolding tie_in sample_in
  fore_alone isnt n l room noted = record {
    long = refl;
    counts = record { points = refl; refinements = refl; entries = room; up = omega arith };
    same = itself_alone k x floats (part 0 (seen_w k) words) owners view k.owners (sample_in k floats (part 0 (seen_w k) words) i) pts marks s ((noted i l).1 (sym tie_front ∙ isnt));
  }

pub fore_is : (k : Rooms) (x : AngularIndex) (floats : List Float) (words owners : List ℕ) (view : View) (i : ℕ) (pts : List Float) (marks : List ℕ) (s : Trace) {m n : List ℕ} {u v : Trace} → m ≡ n → u ≡ v
    → Fore k x floats words owners view i pts marks s n v → Fore k x floats words owners view i pts marks s m u
fore_is k x floats words owners view i pts marks s {n = n} {u = u} hm hu f =
    subst (λ (q : List ℕ). Fore k x floats words owners view i pts marks s q u) (sym hm) (subst (λ (q : Trace). Fore k x floats words owners view i pts marks s n q) (sym hu) f)

pub emitted_behind : {l room : ℕ} {s u t : Trace} → Raised room s u → Emitted l room u t → Emitted l room s t
emitted_behind r q = record { points = q.points; owners = q.owners; up = omega (arith, r.up, q.up); casts = q.casts ∙ r.refinements }

-- ---- an arc
pub arc_point_is : (view : View) (angle gap : Float) (steps i : ℕ) {x y : Float} {p : Vec2} → x ≡ count_f i → y ≡ count_f steps → p ≡ point_of view (angle ⊕ gap ⊗ x ⊘ y) None → p ≡ arc_point view angle gap steps i
unfolding arc_point
arc_point_is view angle gap steps i hx hy hp = rw (hp, hx, hy)

pub record Arcing (view : View) (angle gap : Float) (steps : ℕ) (pts₀ : List Float) (s : Trace) (pts : List Float) (t : Trace) (i : ℕ) : Type 0 where
  pub long : length pts ≡ length pts₀
  pub counts : Pushed (length pts₀) s t
  pub run : arc_of view angle gap steps i (steps - i) (out pts t) ≡ arc_of view angle gap steps 1 (steps - 1) (out pts₀ s)

module _ (view : View) (angle gap : Float) (steps : ℕ) (pts₀ : List Float) (s : Trace) where
  pub arc_none : 2 * s.points ≤ length pts₀ → Arcing view angle gap steps pts₀ s pts₀ s 1
  arc_none h = record { long = refl; counts = pushed_none h; run = refl }

  module _ (pts : List Float) (t : Trace) (i : ℕ) (so : Arcing view angle gap steps pts₀ s pts t i) where
    pub arc_more : i < steps → (pts' : List Float) (t' : Trace) {p : Vec2} → p ≡ arc_point view angle gap steps i → out pts' t' ≡ push_of view.o p corner pts t → length pts' ≡ length pts
        → Pushed (length pts) t t' → Arcing view angle gap steps pts₀ s pts' t' (i + 1)
    unfolding arc_of
    arc_more h pts' t' hp e k q =
        let z : steps - i ≡ suc (steps - (i + 1)) = omega arith in
        let r : arc_of view angle gap steps i (suc (steps - (i + 1))) (out pts t) ≡ arc_of view angle gap steps 1 (steps - 1) (out pts₀ s)
        = ap (λ (m : ℕ). arc_of view angle gap steps i m (out pts t)) (sym z) ∙ so.run in
        record {
          long = k ∙ so.long;
          counts = pushed_more so.long so.counts q;
          run =
              ap (λ (m : ℕ). arc_of view angle gap steps m (steps - (i + 1)) (out pts' t')) (add-one i)
              ∙ ap (arc_of view angle gap steps (suc i) (steps - (i + 1))) (e ∙ ap (λ (y : Vec2). push_of view.o y corner pts t) hp)
              ∙ r;
        }

    pub arc_end : steps ≤ i → out pts t ≡ arc_of view angle gap steps 1 (steps - 1) (out pts₀ s)
    unfolding arc_of
    arc_end h = let z : steps - i ≡ 0 = omega arith in ap (λ (m : ℕ). arc_of view angle gap steps i m (out pts t)) (sym z) ∙ so.run

-- ---- `fill_gap`
module _ (v : Env) (step : Float) (a b : Sample) (pts : List Float) (marks : List ℕ) (s : Trace) where
  module _ {t : Float} {e : ℕ} (x : a.hit ≡ hit_at t e) where
    pub gap_leave : b.hit ≡ None → run_at pts marks s ≡ gap_of v step a b (run_at pts marks s)
    unfolding gap_of
    gap_leave y = rw (x, y)

    module _ {u : Float} {f : ℕ} (y : b.hit ≡ hit_at u f) where
      pub gap_same : e ≡ f → run_at pts marks s ≡ gap_of v step a b (run_at pts marks s)
      unfolding gap_of
      gap_same h = rw (x, y) (rw (eq-eqb e f h))

      pub gap_close : (e ≡ f → ⊥) → lt (three ⊗ angle_eps) (b.angle ⊖ a.angle) ≡ false → run_at pts marks s ≡ gap_of v step a b (run_at pts marks s)
      unfolding gap_of
      gap_close h k = rw (x, y) (rw (ne_eqb e f h, k))

      pub gap_refine : (e ≡ f → ⊥) → lt (three ⊗ angle_eps) (b.angle ⊖ a.angle) ≡ true → {q : Run} → q ≡ refine_of v 33 (end_of a.angle e) (end_of b.angle f) (run_at pts marks s)
          → q ≡ gap_of v step a b (run_at pts marks s)
      unfolding gap_of
      gap_refine h k r = rw (x, y) (rw (ne_eqb e f h, k) r)

  module _ (x : a.hit ≡ None) where
    pub gap_enter : {u : Float} {f : ℕ} → b.hit ≡ hit_at u f → run_at pts marks s ≡ gap_of v step a b (run_at pts marks s)
    unfolding gap_of
    gap_enter y = rw (x, y)

    pub gap_arc : b.hit ≡ None → {n : ℕ} → n ≡ steps_of (b.angle ⊖ a.angle) step → {p2 : List Float} {s2 : Trace}
        → out p2 s2 ≡ arc_of v.view a.angle (b.angle ⊖ a.angle) n 1 (n - 1) (out pts s) → run_at p2 marks s2 ≡ gap_of v step a b (run_at pts marks s)
    unfolding gap_of
    gap_arc y hn h =
        rw (x, y)
        (ap (λ (u : Out). run_at u.pts marks u.at) (h ∙ ap (λ (m : ℕ). arc_of v.view a.angle (b.angle ⊖ a.angle) m 1 (m - 1) (out pts s)) hn))

pub done_pushed : {l room : ℕ} {s r : Trace} → Ready l room s → Pushed l s r → Done l room s r
done_pushed h q = record { points = q.within; owners = pushed_room h.owners q; up = omega (arith, q.owners); casts = omega (arith, q.owners, q.refinements) }

-- ---- `between`
module _ (c : Course) (a b : Sample) (pts : List Float) (marks : List ℕ) (s : Trace) {q : Bool} (hq : q ≡ is_pair a b) where
  pub between_pair : q ≡ true → {p2 : List Float} {s2 : Trace}
      → out p2 s2 ≡ see_of (scene c.env.view c.env.points c.env.polygons c.env.owners a.hit b.hit) c.seen (c.corners a.event) (out pts s)
      → run_at p2 marks s2 ≡ between_of c a b (run_at pts marks s)
  unfolding between_of
  between_pair t h = rw (sym hq, t) (ap (λ (u : Out). run_at u.pts marks u.at) h)

  pub between_gap : q ≡ false → {r : Run} → r ≡ gap_of c.env c.step a b (run_at pts marks s) → r ≡ between_of c a b (run_at pts marks s)
  unfolding between_of
  between_gap t h = rw (sym hq, t) h

-- what is read of the words in front of the last stretch, whose place is what a call answers
pub gap_front : (k : Rooms) (x : AngularIndex) (floats : List Float) (words : List ℕ) (view : View) (points : List Float) (polygons owners : List ℕ) (step : Float) (a b : Sample) (s : Run) {w : ℕ} {r : Run}
    → w ≡ seen_w k → r ≡ gap_of (env_in k x floats (part 0 w words) view points polygons owners) step a b s
    → r ≡ gap_of (env_in k x floats (part 0 (seen_w k) words) view points polygons owners) step a b s
gap_front k x floats words view points polygons owners step a b s hw h =
    h ∙ ap (λ (q : ℕ). gap_of (env_in k x floats (part 0 q words) view points polygons owners) step a b s) hw

pub sample_front : (k : Rooms) (floats : List Float) (words : List ℕ) (i : ℕ) {w : ℕ} {s : Sample} → w ≡ seen_w k → s ≡ sample_in k floats (part 0 w words) i → s ≡ sample_in k floats (part 0 (seen_w k) words) i
sample_front k floats words i hw h = h ∙ ap (λ (q : ℕ). sample_in k floats (part 0 q words) i) hw

-- the direction is the sample's
pub dir_front : (k : Rooms) (start : Float) (floats : List Float) (words : List ℕ) (n i : ℕ) (P : Sample → Type 0) → Noted k start P floats (part 0 (seen_w k) words) n → i < n → {w : ℕ} {a : Sample} {d : Vec2} → w ≡ seen_w k
    → a ≡ sample_in k floats (part 0 w words) i → d ≡ dir_in k floats (part 0 w words) i → d ≡ from_angle_of (start ⊕ a.angle)
unfolding sample_in dir_in
dir_front k start floats words n i P h l hw ha hd =
    hd ∙ ap (λ (q : ℕ). dir_in k floats (part 0 q words) i) hw ∙ (h i l).0 ∙ ap (λ (q : Sample). from_angle_of (start ⊕ q.angle)) (sym (sample_front k floats words i hw ha))

pub next_front : (k : Rooms) (floats : List Float) (words : List ℕ) (full : Bool) (n i : ℕ) {w : ℕ} {s : Option Sample} → w ≡ seen_w k → s ≡ next_in full (sample_in k floats (part 0 w words)) n i
    → s ≡ next_in full (sample_in k floats (part 0 (seen_w k) words)) n i
next_front k floats words full n i hw h = h ∙ ap (λ (q : ℕ). next_in full (sample_in k floats (part 0 q words)) n i) hw

-- ---- `visit`
module _ (c : Course) (a' : Sample) (n' : Option Sample) (s : Run) {a : Sample} (ha : a ≡ a') {next : Option Sample} (hn : next ≡ n') (u : Run) {t : Run} (ht : t ≡ emit_of c.env.view c.env.room c.env.owners itself a u)
    (fore : emit_of c.env.view c.env.room c.env.owners itself a' u ≡ emit_of c.env.view c.env.room c.env.owners c.env.credits a' s) where
  emitted : t ≡ emit_of c.env.view c.env.room c.env.owners c.env.credits a' s
  emitted = ht ∙ ap (λ (q : Sample). emit_of c.env.view c.env.room c.env.owners itself q u) ha ∙ fore

  pub visit_to : {b : Sample} → next ≡ Some b → {r : Run} → r ≡ between_of c a b t → r ≡ visit_of c a' n' s
  unfolding visit_of
  visit_to {b} e h =
      rw (sym hn, e) (h ∙ ap (λ (q : Sample). between_of c q b t) ha ∙ ap (between_of c a' b) emitted)

  pub visit_last : next ≡ None → t ≡ visit_of c a' n' s
  unfolding visit_of
  visit_last e = rw (sym hn, e) emitted

pub ready_emitted : {l room : ℕ} {s t : Trace} {m : ℕ} → m ≡ l → Ready l room s → Emitted l room s t → Ready m room t
ready_emitted e h q = record { points = omega (arith, q.points); owners = q.owners; casts = omega (arith, h.casts, q.up, q.casts) }

pub done_emitted : {l room : ℕ} {s t : Trace} → Emitted l room s t → Done l room s t
done_emitted q = record { points = q.points; owners = q.owners; up = q.up; casts = omega (arith, q.up, q.casts) }

pub done_between : {l m room : ℕ} {s t r : Trace} → m ≡ l → Emitted l room s t → Done m room t r → Done l room s r
done_between e q d = record { points = omega (arith, d.points); owners = d.owners; up = omega (arith, q.up, d.up); casts = omega (arith, q.up, q.casts, d.casts) }

-- ---- `begin` and `sweep`
module _ (view : View) (pts : List Float) {t : Trace} (ht : t ≡ none) where
  pub begin_full : view.full ≡ true → out pts t ≡ with_post view (out pts none)
  unfolding with_post
  begin_full f = rw f (ap (out pts) ht)

  pub begin_post : view.full ≡ false → {u : Out} → u ≡ push_of view.o view.o corner pts t → u ≡ with_post view (out pts none)
  unfolding with_post
  begin_post f h = rw f (h ∙ ap (push_of view.o view.o corner pts) ht)

pub pushed_from : {l : ℕ} {s t r : Trace} → s ≡ t → Pushed l s r → Pushed l t r
pushed_from e q = rw e at q

pub swept : (c : Course) (l : List Sample) (view : View) (pts pts' : List Float) (marks : List ℕ) (s : Trace) {r : Run} → out pts' s ≡ with_post view (out pts none)
    → r ≡ sweep_of c l (run_at pts' marks s) → r ≡ sweep_of c l (begin_of view pts marks)
unfolding begin_of
swept c l view pts pts' marks s h e = e ∙ ap (λ (u : Out). sweep_of c l (run_at u.pts marks u.at)) h

pub begin_none : {l : ℕ} {t : Trace} → t ≡ none → Pushed l none t
begin_none {l} h = let q : Pushed l none none = pushed_none (omega arith) in rw h q

pub begin_few : {l : ℕ} {t : Trace} → t ≡ none → 2 * t.points ≤ l
begin_few h = omega (arith, ap (λ (q : Trace). q.points) h)

pub swept_long : {k : Rooms} {l m n : ℕ} {r : Trace} → m ≡ l → Swept k m n r → Swept k l n r
swept_long e h = record { points = omega (arith, h.points); owners = h.owners; casts = h.casts }

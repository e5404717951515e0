-- The turns of `walk`: the samples from i on are left to walk. Assumes nothing.
use Rattle.std.proofs.Common.{◌≡◌, ℕ, ◌+◌, ◌*◌, ◌^◌, ◌<◌, ◌≤◌, Bool, true, false, cond, List, [], ◌∷◌, length, get_or, drop, sym, refl, ap, ◌∙◌, subst, inl, ⊎_elim, le_refl, arith, drop_of_length-le, le-ltb, lt-ltb}
use lib.Ieee.{Float}
use Rattle.lists.specs.Lists.{listed}
use Rattle.lists.specs.Parts.{part, Only}
use Rattle.lists.proofs.Cases.{lt_or_le}
use Rattle.lists.proofs.Parts.{drop_here}
use Rattle.lists.proofs.Only.{only_refl, only_trans, only_part}
use Rattle.lists.proofs.Joined.{length_listed, get_d_listed}
use Rattle.room.specs.declared.Rooms.{Rooms}
use Rattle.room.specs.declared.Sample.{Sample}
use Rattle.room.specs.Layout.{seen_w, words_for}
use Rattle.room.specs.Records.{Noted}
use Rattle.cone.specs.declared.View.{View}
use Rattle.index.specs.declared.AngularIndex.{AngularIndex}
use Rattle.outline.specs.declared.Trace.{Trace}
use Rattle.outline.specs.Outline.{Room}
use Rattle.refining.specs.Refine.{Run, run_at, Ready, Done}
use Rattle.std.specs.Prelude.{Option, Some, None}
use Rattle.sweep.specs.Sweep.{sample_in, Spared, turned, next_of, next_in, Course, course_in, visit_of, walk_of, sweep_of, Walks, Swept}

module _ (at : ℕ → Sample) (n : ℕ) where
  -- the sample i, and those behind it
  from_here : (i : ℕ) → i < n → drop i (listed at n) ≡ at i ∷ drop (i + 1) (listed at n)
  from_here i h =
      drop_here (listed at n) i (at 0) (omega (arith, length_listed at n))
      ∙ ap (λ (q : Sample). q ∷ drop (i + 1) (listed at n)) (get_d_listed at n i (at 0) h)

  past : (i : ℕ) → n ≤ i → drop i (listed at n) ≡ []
  past i h = let k : length (listed at n) ≤ i = omega (arith, length_listed at n) in drop_of_length-le (listed at n) k

  end_by : (full : Bool) → next_of full (at 0) [] ≡ cond full (Some (turned (at 0))) None
  end_by true = refl
  end_by false = refl

  -- what follows the sample i
  follows : (full : Bool) (i : ℕ) → next_of full (at 0) (drop (i + 1) (listed at n)) ≡ next_in full at n i
  unfolding next_in
  follows full i =
      ⊎_elim
      (λ h. rw (from_here (i + 1) h, lt-ltb (i + 1) n h))
      (λ h. rw (past (i + 1) h, le-ltb (i + 1) n h) (end_by full))
      (lt_or_le (i + 1) n)

-- a walk over all of them
sweep_by : (c : Course) (first : Sample) (l : List Sample) (s : Run) → (0 < length l → get_or l 0 first ≡ first) → walk_of c first l s ≡ sweep_of c l s
unfolding walk_of sweep_of
sweep_by c first [] s h = refl
sweep_by c first (a ∷ l) s h = ap (λ (q : Sample). walk_of c q (a ∷ l) s) (sym (h (omega arith)))

-- what holds at the loop's head
pub record Walking (c : Course) (at : ℕ → Sample) (k : Rooms) (n : ℕ) (words₀ : List ℕ) (pts₀ : List Float) (marks₀ : List ℕ) (s : Trace) (words : List ℕ) (pts : List Float) (marks : List ℕ) (t : Trace) (i : ℕ) : Type 0 where
  pub only : Only (seen_w k) (words_for k) words₀ words
  pub long : length pts ≡ length pts₀
  pub held : length marks ≡ length marks₀
  pub points : 2 * t.points ≤ length pts₀
  pub owners : Room k.owners t
  pub casts : t.refinements ≤ 2 * t.owners + i
  pub run : walk_of c (at 0) (drop i (listed at n)) (run_at pts marks t) ≡ walk_of c (at 0) (listed at n) (run_at pts₀ marks₀ s)

module _ (k : Rooms) (x : AngularIndex) (floats : List Float) (view : View) (step : Float) (points : List Float) (polygons owners : List ℕ) (n : ℕ) (words₀ : List ℕ) (pts₀ : List Float) (marks₀ : List ℕ) (s : Trace) where
  -- what the walk goes by, and its samples, as they stand in the words
  abbrev course_at : List ℕ → Course
  course_at words = course_in k x floats (part 0 (seen_w k) words) view step points polygons owners

  abbrev samples_at : List ℕ → ℕ → Sample
  samples_at words = sample_in k floats (part 0 (seen_w k) words)

  abbrev pub Head : List ℕ → List Float → List ℕ → Trace → ℕ → Type 0
  Head words pts marks t i = Walking (course_at words₀) (samples_at words₀) k n words₀ pts₀ marks₀ s words pts marks t i

  pub walk_none : Walks k (length words₀) (length pts₀) s → Head words₀ pts₀ marks₀ s 0
  walk_none h =
      record {
        only = only_refl (seen_w k) (words_for k) words₀;
        long = refl;
        held = refl;
        points = h.points;
        owners = record { most = omega (arith, h.owners); within = λ z. omega (arith, h.owners) };
        casts = omega (arith, h.casts);
        run = refl;
      }

  module _ (words : List ℕ) (pts : List Float) (marks : List ℕ) (t : Trace) (i : ℕ) (so : Head words pts marks t i) where
    pub walk_ready : i < n → n < 2 ^ 32 → k.owners < 2 ^ 32 → Ready (length pts) k.owners t
    walk_ready h a b = record { points = omega (arith, so.points, so.long); owners = so.owners; casts = omega (arith, so.casts) }

    -- what is written lies behind what is read
    front : part 0 (seen_w k) words ≡ part 0 (seen_w k) words₀
    front = only_part 0 (seen_w k) so.only (inl (le_refl (seen_w k)))

    pub walk_noted : Noted k view.start (Spared k x floats (part 0 (seen_w k) words₀) owners view) floats (part 0 (seen_w k) words₀) n
        → Noted k view.start (Spared k x floats (part 0 (seen_w k) words) owners view) floats (part 0 (seen_w k) words) n
    walk_noted d = subst (λ (f : List ℕ). Noted k view.start (Spared k x floats f owners view) floats f n) (sym front) d

    pub walk_more : i < n → (words' : List ℕ) (pts' : List Float) (marks' : List ℕ) (t' : Trace)
        → run_at pts' marks' t' ≡ visit_of (course_at words) (samples_at words i) (next_in view.full (samples_at words) n i) (run_at pts marks t)
        → Done (length pts) k.owners t t' × Only (seen_w k) (words_for k) words words' → length pts' ≡ length pts → length marks' ≡ length marks → Head words' pts' marks' t' (i + 1)
    unfolding walk_of
    walk_more h words' pts' marks' t' e o lp lm =
        let at = samples_at words₀ in
        let c = course_at words₀ in
        let same : run_at pts' marks' t' ≡ visit_of c (at i) (next_in view.full at n i) (run_at pts marks t)
        = e
        ∙ ap (λ (f : List ℕ). visit_of (course_in k x floats f view step points polygons owners) (sample_in k floats f i) (next_in view.full (sample_in k floats f) n i) (run_at pts marks t)) front in
        let r : walk_of c (at 0) (at i ∷ drop (i + 1) (listed at n)) (run_at pts marks t) ≡ walk_of c (at 0) (listed at n) (run_at pts₀ marks₀ s)
        = ap (λ (l : List Sample). walk_of c (at 0) l (run_at pts marks t)) (sym (from_here at n i h)) ∙ so.run in
        record {
          only = only_trans so.only o.1;
          long = lp ∙ so.long;
          held = lm ∙ so.held;
          points = omega (arith, o.0.points, so.long);
          owners = o.0.owners;
          casts = omega (arith, o.0.casts, so.casts);
          run =
              ap (walk_of c (at 0) (drop (i + 1) (listed at n))) (same ∙ ap (λ (q : Option Sample). visit_of c (at i) q (run_at pts marks t)) (sym (follows at n view.full i)))
              ∙ r;
        }

    pub walk_end : n ≤ i → run_at pts marks t ≡ sweep_of (course_at words₀) (listed (samples_at words₀) n) (run_at pts₀ marks₀ s)
    unfolding walk_of
    walk_end h =
        ap (λ (l : List Sample). walk_of (course_at words₀) (samples_at words₀ 0) l (run_at pts marks t)) (sym (past (samples_at words₀) n i h))
        ∙ so.run
        ∙ sweep_by (course_at words₀) (samples_at words₀ 0) (listed (samples_at words₀) n) (run_at pts₀ marks₀ s)
        (λ z. get_d_listed (samples_at words₀) n 0 (samples_at words₀ 0) (omega (arith, length_listed (samples_at words₀) n)))

    pub walk_swept : i ≤ n → Swept k (length pts₀) n t
    walk_swept h = record { points = so.points; owners = so.owners; casts = omega (arith, so.casts) }

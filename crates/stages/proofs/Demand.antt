-- DEMAND 3, THE VISIBLE POLYGONS of a run that is not over. `visible_owns`: every visible id is the owner of a front edge, which faces the post, that a cast of the run
-- tested at exactly the distance that it answered; `rust_returned`: in mode 0 that is the edge that the cast returned. `samples_listed`: the owner of every edge that a
-- sample's cast returned is listed; `ties_listed`: in the other mode so is the owner of every edge that it tested at exactly the distance that it answered.
-- `run_exact`: the run is over exactly where a list of the run in lists that grow passes its entries. Assumes nothing.
use Rattle.std.proofs.Common.{Option}
use mathlib.Core.Path.{◌≡◌, refl, sym, ap, ◌∙◌, subst}
use mathlib.Core.Logic.{◌⊎◌, inl, inr, ⊎_elim}
use mathlib.Core.Bool.{Bool, true, false, cond}
use mathlib.Core.List.{List, [], ◌∷◌, map}
use Prim.Native.Nat.{ℕ, ◌+◌, ◌<◌}
use native.Mathlib.Omega.{arith}
use lib.Dec.{ltb}
use lib.ListN.{length, get_or, set, replicate, length-set, length-replicate}
use lib.Ieee.{Float}
use Rattle.num.specs.Ops.{◌⊕◌, zero_f}
use Rattle.lists.specs.Lists.{bit, counting}
use Rattle.lists.specs.Members.{In, holds}
use Rattle.lists.proofs.Cases.{eq_or_ne}
use Rattle.lists.proofs.Counting.{counting_in, in_counting, filter_in, in_filter}
use Rattle.lists.proofs.Members.{all_in, holds_in, in_holds, in_map, from_map}
use Rattle.geom.specs.Vec.{from_angle_of}
use Rattle.sorts.specs.Visible.{marked_of, Marks}
use Rattle.sorts.proofs.Marks.{marks_none}
use Rattle.site.specs.Tables.{owner_at}
use Rattle.cone.specs.declared.View.{View}
use Rattle.room.specs.declared.LocalEdge.{LocalEdge}
use Rattle.room.specs.declared.Sample.{Sample}
use Rattle.fan.specs.Fronts.{IsFront}
use Rattle.fan.proofs.Fronts.{fronts}
use Rattle.events.specs.Spots.{Spot}
use Rattle.index.specs.Angular.{Index, index_of}
use Rattle.index.specs.Spans.{head_of}
use Rattle.index.specs.Casting.{tied_of}
use Rattle.index.proofs.Hits.{tied_front}
use Rattle.index.proofs.Lowest.{tied_hit}
use Rattle.credit.proofs.Credits.{credits_rust, credits_answer, credits_tied, credits_every}
use Rattle.outline.specs.declared.Trace.{Trace}
use Rattle.outline.specs.Outline.{owned, own_of}
use Rattle.refining.specs.Refine.{credits_for}
use Rattle.rays.specs.Samples.{hit_of, cast_ray, ordered_of, rays_cast}
use Rattle.sweep.specs.Sweep.{Course}
use Rattle.sweep.specs.Recorder.{Free, free, free_begin, as_rust, passes}
use Rattle.sweep.proofs.Sim.{any_sweep}
use Rattle.sweep.proofs.Exact.{beside, exact}
use Rattle.sweep.proofs.Visible.{Entered, entries_entered, credits_entered, marks_left, casts_left}
use Rattle.credit.specs.Credit.{no_marks}
use Rattle.stages.specs.Drawing.{Request, view_in, fan_in, samples_for, rays_for, index_for, course_of, run_of}
use Rattle.site.specs.Hits.{hit_at}
use Rattle.site.specs.declared.RayHit.{RayHit}

-- ---- marks
bit_true : (b : Bool) → ltb 0 (bit b) ≡ true → b ≡ true
bit_true true e = refl
bit_true false e = let z : ◌≡◌ {A = ℕ} 0 1 = cc in absurd (omega arith)

listed_held : (ids seen : List ℕ) (k : ℕ) → Marks ids seen → In k (marked_of seen) → In k ids
unfolding marked_of
listed_held ids seen k m h =
    let (i, t) = filter_in (λ k. ltb 0 (get_or seen k 0)) k (counting 0 (length seen)) h in
    let (_, l) = counting_in k 0 (length seen) i in
    holds_in k ids (bit_true (holds k ids) (ap (ltb 0) (sym (m k (omega arith))) ∙ t))

held_listed : (ids seen : List ℕ) (k : ℕ) → Marks ids seen → k < length seen → In k ids → In k (marked_of seen)
unfolding marked_of
held_listed ids seen k m l h =
    in_filter (λ k. ltb 0 (get_or seen k 0)) k (counting 0 (length seen)) (in_counting k 0 (length seen) (omega arith) (omega arith))
    (ap (ltb 0) (m k l ∙ ap bit (in_holds k ids h)))

own_long : (room : ℕ) (owners : List ℕ) (e : ℕ) (marks : List ℕ) (s : Trace) → length (own_of room owners e marks s).marks ≡ length marks
unfolding own_of
own_long room owners e marks s = by s.over (ltb s.owners room) _ _ _
  where
    by : (a b : Bool) (x y z : Trace) → length (cond a (owned marks x) (cond b (owned (set marks (owner_at owners e) 1) y) (owned marks z))).marks ≡ length marks
    by true b x y z = refl
    by false true x y z = length-set marks (owner_at owners e) 1
    by false false x y z = refl

-- ---- a run
module _ (q : Request) (es : List LocalEdge) (sp : List Spot) where
  abbrev pub course : Course
  course = course_of q es sp

  abbrev pub rays : List Sample
  rays = rays_for q.mode (view_in q) es sp

  entries : List ℕ
  entries = (as_rust (course_of q es sp) (rays_for q.mode (view_in q) es sp) no_marks).entries

  no_marks_lem : Marks [] no_marks
  unfolding no_marks
  no_marks_lem = marks_none 4096

  marks_are : (run_of q es sp).at.over ≡ false → Marks (map (owner_at q.owners) entries) (run_of q es sp).marks
  unfolding run_of entries
  marks_are h = marks_left (course_of q es sp) (rays_for q.mode (view_in q) es sp) no_marks (replicate q.numbers zero_f) no_marks_lem h

  -- as many casts of refining as the run counts
  pub run_casts : (run_of q es sp).at.over ≡ false → (run_of q es sp).at.refinements ≡ length (as_rust (course_of q es sp) (rays_for q.mode (view_in q) es sp) no_marks).rays
  unfolding run_of
  run_casts h = casts_left (course_of q es sp) (rays_for q.mode (view_in q) es sp) no_marks (replicate q.numbers zero_f) no_marks_lem h

  -- what the ray at an angle hits, and the edges that its cast tests and meets at exactly the distance u
  abbrev pub cast_at : Float → Option RayHit
  cast_at angle = hit_of (view_in q) (index_for q es) angle

  abbrev pub tied_at : Float → Float → List LocalEdge
  tied_at angle u = tied_of (index_for q es) (view_in q).o angle (from_angle_of ((view_in q).start ⊕ angle)) (view_in q).r u

  -- each of these is a front edge
  tied_listed : (angle u : Float) (x : LocalEdge) → In x (tied_at angle u) → In x es
  tied_listed angle u x i = all_in (λ y. In y es) (tied_at angle u) x (tied_front q.mode (view_in q).fov es (view_in q).o angle (from_angle_of ((view_in q).start ⊕ angle)) (view_in q).r u) i

  -- a sample's hit is the answer of the cast at its angle
  cast_hit : (v : View) (x : Index) (l : List Sample) (a : Sample) → In a (map (cast_ray v x) l) → a.hit ≡ hit_of v x a.angle
  unfolding hit_of
  cast_hit v x l a i = let (s, _, e) = from_map (cast_ray v x) a l i in ap (λ (z : Sample). z.hit) (sym e) ∙ ap (λ (z : Sample). hit_of v x z.angle) e

  ray_hit : (a : Sample) → In a (rays_for q.mode (view_in q) es sp) → a.hit ≡ cast_at a.angle
  unfolding rays_cast hit_of
  ray_hit a i = cast_hit (view_in q) (index_for q es) (ordered_of (samples_for (view_in q) sp)) a i

  -- what a cast credits is tied with what it answers
  mode_is : (index_for q es).head.mode ≡ q.mode
  unfolding index_of head_of
  mode_is = refl

  abbrev credits : Float → ℕ → List ℕ
  credits = credits_for (view_in q) (index_for q es) q.owners

  answer_tied : (g u : Float) (f : ℕ) → cast_at g ≡ hit_at u f → (y : LocalEdge) × In y (tied_at g u) × (y.edge ≡ f)
  unfolding hit_of
  answer_tied g u f h = tied_hit (index_for q es) (view_in q).o g (from_angle_of ((view_in q).start ⊕ g)) (view_in q).r u f h

  rust_credits : q.mode ≡ 0 → (g : Float) (f : ℕ) → credits g f ≡ f ∷ []
  unfolding credits_for
  rust_credits m g f = credits_rust (index_for q es) q.owners (view_in q).o g (from_angle_of ((view_in q).start ⊕ g)) (view_in q).r f (mode_is ∙ m)

  rust_credit : q.mode ≡ 0 → (g : Float) (f e : ℕ) → In e (credits g f) → e ≡ f
  rust_credit m g f e i = ⊎_elim (λ z. z) absurd (subst (In e) (rust_credits m g f) i)

  module _ (ties : q.mode ≡ 0 → ⊥) (g u : Float) (f : ℕ) (h : cast_at g ≡ hit_at u f) where
    other_credit : (e : ℕ) → In e (credits g f) → (e ≡ f) ⊎ ((y : LocalEdge) × In y (tied_at g u) × (y.edge ≡ e))
    unfolding hit_of credits_for
    other_credit e i = credits_tied (index_for q es) q.owners (view_in q).o g (from_angle_of ((view_in q).start ⊕ g)) (view_in q).r f (λ z. ties (sym mode_is ∙ z)) u h e i

    answer_credit : In f (credits g f)
    unfolding hit_of credits_for
    answer_credit = credits_answer (index_for q es) q.owners (view_in q).o g (from_angle_of ((view_in q).start ⊕ g)) (view_in q).r f

    tied_credit : (y : LocalEdge) → In y (tied_at g u) → owner_at q.owners y.edge < 4096 → In (owner_at q.owners y.edge) (map (owner_at q.owners) (credits g f))
    unfolding hit_of credits_for
    tied_credit y i l = credits_every (index_for q es) q.owners (view_in q).o g (from_angle_of ((view_in q).start ⊕ g)) (view_in q).r f (λ z. ties (sym mode_is ∙ z)) u h y i l

  credit_tied : (g u : Float) (f e : ℕ) → cast_at g ≡ hit_at u f → In e (credits g f) → (y : LocalEdge) × In y (tied_at g u) × (y.edge ≡ e)
  credit_tied g u f e h i =
      ⊎_elim (λ m. on (rust_credit m g f e i)) (λ m. ⊎_elim on (λ z. z) (other_credit m g u f h e i)) (eq_or_ne q.mode 0)
    where
      on : e ≡ f → (y : LocalEdge) × In y (tied_at g u) × (y.edge ≡ e)
      on z = let (y, j, n) = answer_tied g u f h in (y, j, n ∙ sym z)

  first_credit : (g u : Float) (f : ℕ) → cast_at g ≡ hit_at u f → In f (credits g f)
  first_credit g u f h = ⊎_elim (λ m. subst (In f) (sym (rust_credits m g f)) (inl refl)) (λ m. answer_credit m g u f h) (eq_or_ne q.mode 0)

  -- a cast of the run tested the edge x at exactly the distance that it answered: one of refining, or that of a sample
  abbrev pub Tested : LocalEdge → Type 0
  Tested x = ((angle : Float) × In angle (as_rust (course_of q es sp) (rays_for q.mode (view_in q) es sp) no_marks).rays × (u : Float) × (f : ℕ) × (cast_at angle ≡ hit_at u f) × In x (tied_at angle u))
      ⊎ ((a : Sample) × In a (rays_for q.mode (view_in q) es sp) × (u : Float) × (f : ℕ) × (a.hit ≡ hit_at u f) × In x (tied_at a.angle u))

  pub tested_listed : (x : LocalEdge) → Tested x → In x es
  tested_listed x r = ⊎_elim (λ s. tied_listed s.0 s.2 x s.5) (λ s. tied_listed s.0.angle s.2 x s.5) r

  -- a sample's hit is a front edge
  pub sample_front : (a : Sample) → In a (rays_for q.mode (view_in q) es sp) → (u : Float) (e : ℕ) → a.hit ≡ hit_at u e → (x : LocalEdge) × In x es × (x.edge ≡ e)
  sample_front a i u e h = let (x, j, n) = answer_tied a.angle u e (sym (ray_hit a i) ∙ h) in (x, tied_listed a.angle u x j, n)

  entered_tested : (e : ℕ) → Entered (course_of q es sp) (rays_for q.mode (view_in q) es sp) no_marks e → (x : LocalEdge) × Tested x × (x.edge ≡ e)
  entered_tested e r =
      ⊎_elim
      (λ s. let (x, i, n) = credit_tied s.0 s.2 s.3 e s.4 s.5 in (x, inl (s.0, s.1, s.2, s.3, s.4, i), n))
      (λ s. let (x, i, n) = credit_tied s.0.angle s.2 s.3 e (sym (ray_hit s.0 s.1) ∙ s.4) s.5 in (x, inr (s.0, s.1, s.2, s.3, s.4, i), n))
      r

  -- a cast of the run returned the edge e
  abbrev pub Returned : ℕ → Type 0
  Returned e = ((angle : Float) × In angle (as_rust (course_of q es sp) (rays_for q.mode (view_in q) es sp) no_marks).rays × (u : Float) × (cast_at angle ≡ hit_at u e))
      ⊎ ((a : Sample) × In a (rays_for q.mode (view_in q) es sp) × (u : Float) × (a.hit ≡ hit_at u e))

  entered_returned : q.mode ≡ 0 → (e : ℕ) → Entered (course_of q es sp) (rays_for q.mode (view_in q) es sp) no_marks e → Returned e
  entered_returned m e r =
      ⊎_elim
      (λ s. inl (s.0, s.1, s.2, s.4 ∙ ap (hit_at s.2) (sym (rust_credit m s.0 s.3 e s.5))))
      (λ s. inr (s.0, s.1, s.2, s.4 ∙ ap (hit_at s.2) (sym (rust_credit m s.0.angle s.3 e s.5))))
      r

  -- an id is seen: an edge of it has an entry; it is a front edge that a cast tested at exactly the distance that it answered
  pub record Seen (id : ℕ) : Type 0 where
    pub edge : ℕ
    pub owner : owner_at q.owners edge ≡ id
    pub entered : Entered (course_of q es sp) (rays_for q.mode (view_in q) es sp) no_marks edge
    pub front : LocalEdge
    pub tested : Tested front
    pub listed : In front es
    pub number : front.edge ≡ edge

  pub visible_owns : (run_of q es sp).at.over ≡ false → (id : ℕ) → In id (marked_of (run_of q es sp).marks) → Seen id
  unfolding entries
  visible_owns h id i =
      let (e, j, o) = from_map (owner_at q.owners) id entries (listed_held (map (owner_at q.owners) entries) (run_of q es sp).marks id (marks_are h) i) in
      let r = all_in (Entered (course_of q es sp) (rays_for q.mode (view_in q) es sp) no_marks) entries e (entries_entered (course_of q es sp) (rays_for q.mode (view_in q) es sp) no_marks) j in
      let (x, k, n) = entered_tested e r in
      record { edge = e; owner = o; entered = r; front = x; tested = k; listed = tested_listed x k; number = n }

  -- in the Rust's mode it is an edge that a cast returned
  pub rust_returned : q.mode ≡ 0 → (id : ℕ) (s : Seen id) → Returned s.edge
  rust_returned m id s = entered_returned m s.edge s.entered

  -- refusal 8 is exact here too: the run is over where a list of the growing run is longer than its entries, and nowhere else
  pub run_exact : (run_of q es sp).at.over ≡ passes q.numbers q.k.owners q.k.seen (as_rust (course_of q es sp) (rays_for q.mode (view_in q) es sp) no_marks)
  unfolding run_of
  run_exact =
      exact (course_of q es sp) (rays_for q.mode (view_in q) es sp) (replicate q.numbers zero_f) no_marks
      ∙ ap (λ (n : ℕ). passes n q.k.owners q.k.seen (as_rust (course_of q es sp) (rays_for q.mode (view_in q) es sp) no_marks)) (length-replicate q.numbers zero_f)

  -- there are 4,096 marks, one for each polygon that a sound site has at most
  free_long : length (as_rust (course_of q es sp) (rays_for q.mode (view_in q) es sp) no_marks).run.marks ≡ length no_marks
  free_long =
      let v = (course_of q es sp).env in
      any_sweep (free v) (free v) (λ (f g : Free). length f.run.marks ≡ length no_marks) (λ p tag f g h. h) (λ e f g h. own_long (f.run.at.owners + 1) v.owners e f.run.marks f.run.at ∙ h)
      (λ w f g h. h) (λ cs f g h. h) (course_of q es sp) (rays_for q.mode (view_in q) es sp) (free_begin v.view no_marks) (free_begin v.view no_marks) refl

  -- a run that is not over has marked what the growing run marks
  pub run_marks : (run_of q es sp).at.over ≡ false → (run_of q es sp).marks ≡ (as_rust (course_of q es sp) (rays_for q.mode (view_in q) es sp) no_marks).run.marks
  unfolding run_of
  run_marks h = (beside (course_of q es sp) (rays_for q.mode (view_in q) es sp) (replicate q.numbers zero_f) no_marks).marks h

  marks_long : (run_of q es sp).at.over ≡ false → length (run_of q es sp).marks ≡ 4096
  unfolding no_marks
  marks_long h = ap length (run_marks h) ∙ free_long ∙ length-replicate {A = ℕ} 4096 0

  -- every owner of an edge that a sample's cast credits
  credit_listed : (run_of q es sp).at.over ≡ false → (a : Sample) → In a (rays_for q.mode (view_in q) es sp) → (t : Float) (f : ℕ) → a.hit ≡ hit_at t f → (o : ℕ) → o < 4096
      → In o (map (owner_at q.owners) (credits a.angle f)) → In o (marked_of (run_of q es sp).marks)
  unfolding entries
  credit_listed h a i t f x o l j =
      let (e, k, z) = from_map (owner_at q.owners) o (credits a.angle f) j in
      held_listed (map (owner_at q.owners) entries) (run_of q es sp).marks o (marks_are h) (omega (arith, marks_long h))
      (subst (λ (y : ℕ). In y (map (owner_at q.owners) entries)) z (in_map (owner_at q.owners) e entries (credits_entered (course_of q es sp) (rays_for q.mode (view_in q) es sp) no_marks a i t f x e k)))

  pub samples_listed : (run_of q es sp).at.over ≡ false → (a : Sample) → In a (rays_for q.mode (view_in q) es sp) → (t : Float) (e : ℕ) → a.hit ≡ hit_at t e → owner_at q.owners e < 4096
      → In (owner_at q.owners e) (marked_of (run_of q es sp).marks)
  samples_listed h a i t e x l =
      credit_listed h a i t e x (owner_at q.owners e) l (in_map (owner_at q.owners) e (credits a.angle e) (first_credit a.angle t e (sym (ray_hit a i) ∙ x)))

  -- in the other mode every owner of an edge that a sample's cast tested at exactly the distance that it answered
  pub ties_listed : (run_of q es sp).at.over ≡ false → (q.mode ≡ 0 → ⊥) → (a : Sample) → In a (rays_for q.mode (view_in q) es sp) → (t : Float) (e : ℕ) → a.hit ≡ hit_at t e
      → (x : LocalEdge) → In x (tied_at a.angle t) → owner_at q.owners x.edge < 4096 → In (owner_at q.owners x.edge) (marked_of (run_of q es sp).marks)
  ties_listed h m a i t e z x u l =
      credit_listed h a i t e z (owner_at q.owners x.edge) l (tied_credit m a.angle t e (sym (ray_hit a i) ∙ z) x u l)

-- the front edges of the candidates face the post: no cross product of theirs is zero or more
pub front_faces : (q : Request) (boxes : List Float) (ids : List ℕ) (x : LocalEdge) → In x (fan_in q boxes ids).edges → IsFront (view_in q) q.points q.polygons ids x
front_faces q boxes ids x i = all_in (IsFront (view_in q) q.points q.polygons ids) (fan_in q boxes ids).edges x (fronts (view_in q) q.points boxes q.polygons ids) i

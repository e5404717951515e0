-- MODE 0 IS THE RUST'S RULE: `rust_run_lem`: the run of a request in mode 0 is the run of specs/Rust.antt, which knows no mode, and so is the run in lists that grow
-- (`rust_growing`). The mode enters the stages nowhere else: what is scanned and merged, the index and its bounds, and what the run comes to go by it only through the
-- run. Assumes nothing.
use Rattle.std.proofs.Common.{Option}
use mathlib.Core.Path.{◌≡◌, refl, ap, ◌∙◌, fun_ext}
use mathlib.Core.List.{List, [], ◌∷◌, map}
use Prim.Native.Nat.{ℕ}
use lib.ListN.{replicate}
use lib.Ieee.{Float}
use Rattle.num.specs.Ops.{◌⊕◌, zero_f}
use Rattle.geom.specs.Vec.{from_angle_of}
use Rattle.room.specs.declared.LocalEdge.{LocalEdge}
use Rattle.room.specs.declared.Sample.{Sample}
use Rattle.room.specs.Records.{with_hit}
use Rattle.events.specs.Spots.{Spot}
use Rattle.index.specs.Spans.{head_of}
use Rattle.index.specs.Angular.{Index, index_of}
use Rattle.index.proofs.Rusts.{rust_cast_lem}
use Rattle.credit.proofs.Credits.{credits_rust}
use Rattle.rays.specs.Samples.{hit_of, ordered_of, rays_cast}
use Rattle.refining.specs.Refine.{credits_for}
use Rattle.sweep.specs.Sweep.{Course, begin_of, sweep_of}
use Rattle.sweep.specs.Recorder.{as_rust}
use Rattle.credit.specs.Credit.{no_marks}
use Rattle.stages.specs.Drawing.{Request, view_in, samples_for, rays_for, index_for, course_by, course_of, run_of}
use Rattle.stages.specs.Rust.{rust_hit, rust_rays, rust_index, rust_course, rust_run}
use Rattle.site.specs.declared.RayHit.{RayHit}

module _ (q : Request) (es : List LocalEdge) (sp : List Spot) (m : q.mode ≡ 0) where
  index_is : index_for q es ≡ rust_index q es
  index_is = ap (λ (n : ℕ). index_of n (view_in q).fov es) m

  zero_mode : (rust_index q es).head.mode ≡ 0
  unfolding index_of head_of
  zero_mode = refl

  hit_is : hit_of (view_in q) (index_for q es) ≡ rust_hit (view_in q) (rust_index q es)
  unfolding hit_of rust_hit
  hit_is =
      ap (hit_of (view_in q)) index_is
      ∙ fun_ext (λ (a : Float). rust_cast_lem (rust_index q es) zero_mode (view_in q).o a (from_angle_of ((view_in q).start ⊕ a)) (view_in q).r)

  credits_are : credits_for (view_in q) (index_for q es) q.owners ≡ (λ (angle : Float). λ (e : ℕ). e ∷ [])
  unfolding credits_for
  credits_are =
      ap (λ (x : Index). credits_for (view_in q) x q.owners) index_is
      ∙ fun_ext (λ (a : Float). fun_ext (λ (e : ℕ). credits_rust (rust_index q es) q.owners (view_in q).o a (from_angle_of ((view_in q).start ⊕ a)) (view_in q).r e zero_mode))

  pub rust_rays_lem : rays_for q.mode (view_in q) es sp ≡ rust_rays (view_in q) (rust_index q es) (samples_for (view_in q) sp)
  unfolding rays_cast
  rust_rays_lem = ap (λ (g : Float → (Option RayHit)). map (λ (s : Sample). with_hit s (g s.angle)) (ordered_of (samples_for (view_in q) sp))) hit_is

  pub rust_course_lem : course_of q es sp ≡ rust_course q es sp
  rust_course_lem =
      ap (λ (g : Float → (Option RayHit)). course_by g (credits_for (view_in q) (index_for q es) q.owners) q sp) hit_is
      ∙ ap (λ (c : Float → ℕ → List ℕ). course_by (rust_hit (view_in q) (rust_index q es)) c q sp) credits_are

  -- one walk over both
  both : {A : Type 0} (f : Course → List Sample → A) → f (course_of q es sp) (rays_for q.mode (view_in q) es sp) ≡ f (rust_course q es sp) (rust_rays (view_in q) (rust_index q es) (samples_for (view_in q) sp))
  both f = ap (λ (c : Course). f c (rays_for q.mode (view_in q) es sp)) rust_course_lem ∙ ap (f (rust_course q es sp)) rust_rays_lem

  pub rust_run_lem : run_of q es sp ≡ rust_run q es sp
  unfolding run_of rust_run
  rust_run_lem = both (λ c l. sweep_of c l (begin_of (view_in q) (replicate q.numbers zero_f) no_marks))

  -- and so is the run in lists that grow, by which demand 3 is said
  pub rust_growing : as_rust (course_of q es sp) (rays_for q.mode (view_in q) es sp) no_marks
      ≡ as_rust (rust_course q es sp) (rust_rays (view_in q) (rust_index q es) (samples_for (view_in q) sp)) no_marks
  rust_growing = both (λ c l. as_rust c l no_marks)

-- THE SWEEP BY THE RUST'S RULE ALONE, without a mode (`visibility.rs`, lines 380 to 510): each ray is answered by `rust_cast` (crate `index`), and a hit has one entry,
-- that of the edge answered. Mode 0 is this: `rust_run_lem` (proofs/Rusts.antt). Definitions only.
use Rattle.std.specs.Prelude.{List, [], ◌∷◌, map, ℕ, replicate, Float, Option}
use Rattle.num.specs.Ops.{◌⊕◌, zero_f}
use Rattle.geom.specs.Vec.{from_angle_of}
use Rattle.cone.specs.declared.View.{View}
use Rattle.room.specs.declared.LocalEdge.{LocalEdge}
use Rattle.room.specs.declared.Sample.{Sample}
use Rattle.room.specs.Records.{with_hit}
use Rattle.events.specs.Spots.{Spot}
use Rattle.index.specs.Angular.{Index, index_of}
use Rattle.index.specs.Rust.{rust_cast}
use Rattle.rays.specs.Samples.{ordered_of}
use Rattle.refining.specs.Refine.{Run}
use Rattle.sweep.specs.Sweep.{Course, begin_of, sweep_of}
use Rattle.credit.specs.Credit.{no_marks}
use Rattle.stages.specs.Drawing.{Request, view_in, samples_for, course_by}
use Rattle.site.specs.declared.RayHit.{RayHit}

-- what the ray at an angle hits
unfoldable pub rust_hit : View → Index → Float → Option RayHit
rust_hit view x angle = rust_cast x view.o angle (from_angle_of (view.start ⊕ angle)) view.r

-- the rays in order of angle, each with its answer
abbrev pub rust_rays : View → Index → List Sample → List Sample
rust_rays view x l = map (λ (s : Sample). with_hit s (rust_hit view x s.angle)) (ordered_of l)

abbrev pub rust_index : Request → List LocalEdge → Index
rust_index q edges = index_of 0 (view_in q).fov edges

-- what the sweep goes by: a hit credits the edge answered
abbrev pub rust_course : Request → List LocalEdge → List Spot → Course
rust_course q edges spots = course_by (rust_hit (view_in q) (rust_index q edges)) (λ (angle : Float). λ (e : ℕ). e ∷ []) q spots

-- THE RUN of it
unfoldable pub rust_run : Request → List LocalEdge → List Spot → Run
rust_run q edges spots =
    sweep_of (rust_course q edges spots) (rust_rays (view_in q) (rust_index q edges) (samples_for (view_in q) spots)) (begin_of (view_in q) (replicate q.numbers zero_f) no_marks)

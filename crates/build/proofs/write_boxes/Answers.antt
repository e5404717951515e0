-- `write_boxes`: four numbers a turn, and zeros after the last. Assumes nothing.
use mathlib.Core.List.{List}
use mathlib.Core.Path.{◌≡◌, refl, ap, ◌∙◌}
use Prim.Native.Nat.{ℕ, ◌*◌}
use native.Mathlib.Omega.{arith}
use lib.Ieee.{Float}
use lib.Seq.{sets}
use lib.ListN.{length}
use Rattle.lists.proofs.Sums.{sum_to_const}
use Rattle.lists.specs.Lists.{joined}
use Rattle.num.specs.Ops.{zero_f}
use Rattle.site.specs.Tables.{box_of}
use Rattle.build.specs.Stored.{box_numbers}
use Rattle.build.proofs.Writing.{blocks_length, next_block, cleared}
use Rattle.build.proofs.write_boxes.Goals as goal

pub loop-k-preserved : goal.loop-k-preserved
loop-k-preserved c =
    let f : ℕ → List Float = λ j. box_numbers (box_of c.args.points.now c.args.polygons.now j) in
    let e : length (joined f c.loop-k.k) ≡ c.loop-k.k * 4 = blocks_length f (λ _. 4) c.loop-k.k (λ k h. refl) ∙ sum_to_const 4 c.loop-k.k in
    next_block c.args.boxes.now f c.loop-k.k (4 * c.loop-k.k) c.loop-k.boxes _ (box_numbers c.box_of.result) c.loop-k.invariant c.put_box.ensures (ap box_numbers c.box_of.ensures) (omega arith)

pub returns : goal.returns
returns c =
    let f : ℕ → List Float = λ j. box_numbers (box_of c.args.points.now c.args.polygons.now j) in
    let k : c.loop-k.k ≡ c.args.n = omega arith in
    let e : length (joined f c.args.n) ≡ c.args.n * 4 = blocks_length f (λ _. 4) c.args.n (λ k h. refl) ∙ sum_to_const 4 c.args.n in
    cleared zero_f c.args.boxes.now (joined f c.args.n) (4 * c.args.n) c.loop-k.boxes _ (c.loop-k.invariant ∙ ap (λ (m : ℕ). sets c.args.boxes.now 0 (joined f m)) k) c.clear_from.ensures (omega arith) (omega (arith, c.requires))

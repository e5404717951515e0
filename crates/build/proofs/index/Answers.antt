-- `index`: the boxes of the points written, and the grid over them. Assumes nothing.
use mathlib.Core.Path.{ap, ◌∙◌}
use Prim.Native.Nat.{◌+◌, ◌*◌}
use native.Mathlib.Omega.{arith}
use native.Mathlib.Nat.{le_trans, le_of_eq}
use lib.ListN.{length}
use Rattle.lists.specs.Parts.{padded}
use Rattle.tables.specs.Tables.{span_of}
use Rattle.build.specs.Outcome.{span_at}
use Rattle.build.proofs.Spans.{items_ext, starts_ext, fill_span}
use Rattle.build.proofs.index.Goals as goal

pub fill-requires : goal.fill-requires
fill-requires c =
    let e = fill_span c.args.g c.args.points.now c.args.polygons.now c.args.n (length c.args.boxes.now) c.write_boxes.new.boxes c.write_boxes.ensures in
    let l = ap length (items_ext (span_of c.args.g c.write_boxes.new.boxes) (span_at c.args.g c.args.points.now c.args.polygons.now) c.args.n c.args.g.cols e (c.args.g.cols * c.args.g.rows)) in
    (record { limits = c.requires.limits; few = c.requires.few; long = omega (arith, c.write_boxes.auto.boxes, c.requires.boxes_fit) }, c.requires.starts_fit, le_trans (le_of_eq l) c.requires.items_fit, le_trans (le_of_eq l) c.requires.few_items)

pub returns-clause-starts_after : goal.returns-clause-starts_after
returns-clause-starts_after c =
    let e = fill_span c.args.g c.args.points.now c.args.polygons.now c.args.n (length c.args.boxes.now) c.write_boxes.new.boxes c.write_boxes.ensures in
    c.fill.ensures.starts_after ∙ ap (padded 0 (length c.args.starts.now)) (starts_ext (span_of c.args.g c.write_boxes.new.boxes) (span_at c.args.g c.args.points.now c.args.polygons.now) c.args.n c.args.g.cols e (c.args.g.cols * c.args.g.rows + 1))

pub returns-clause-after : goal.returns-clause-after
returns-clause-after c =
    let e = fill_span c.args.g c.args.points.now c.args.polygons.now c.args.n (length c.args.boxes.now) c.write_boxes.new.boxes c.write_boxes.ensures in
    c.fill.ensures.after ∙ ap (padded 0 (length c.args.items.now)) (items_ext (span_of c.args.g c.write_boxes.new.boxes) (span_at c.args.g c.args.points.now c.args.polygons.now) c.args.n c.args.g.cols e (c.args.g.cols * c.args.g.rows))

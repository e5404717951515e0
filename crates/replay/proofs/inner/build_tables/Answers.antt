-- `replay::inner::build_tables` meets its contract. Assumes nothing.
use Rattle.tables.specs.Tables.{span_of}
use Rattle.probe.specs.Numbers.{grid_of}
use Rattle.replay.proofs.SoundTables.{sound_built}
use Rattle.replay.proofs.inner.build_tables.Goals as goal

pub returns : goal.returns
returns c =
    let g = grid_of c.args.gx c.args.gy c.args.cell c.args.inv c.args.cols c.args.rows in
    sound_built (span_of g c.args.boxes.now) c.args.polygons c.args.cols c.args.rows c.args.starts.now c.args.items.now _ _ _ _
    c.requires.limits.has_cols
    c.requires.limits.has_rows
    c.bf_inner_build.ensures

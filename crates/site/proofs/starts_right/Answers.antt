-- `site::starts_right` meets its contract. Assumes nothing.
use mathlib.Core.Path.{◌∙◌}
use Rattle.site.specs.Soundness.{starts_right}
use Rattle.site.proofs.Falling.{table_falls}
use Rattle.site.proofs.starts_right.Goals as goal

pub returns : goal.returns
unfolding starts_right
returns c =
    let falls = c.never_fall.ensures ∙ table_falls c.args.starts.now c.cells_of-cells.result (rw c.cells_of-cells.ensures c.requires) in
    simp (c.start_at-2.ensures, falls, c.start_at.ensures, c.cells_of-cells.ensures)

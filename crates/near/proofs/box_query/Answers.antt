-- `near::box_query` meets its contract. Assumes nothing.
use mathlib.Core.Path.{sym, ◌∙◌}
use Rattle.tables.proofs.Cells.{range_of_lem}
use Rattle.near.proofs.Ways.{no_range, with_range}
use Rattle.near.proofs.box_query.Goals as goal

pub range_query-requires : goal.range_query-requires
range_query-requires c = record { limits = c.requires.0; inside = range_of_lem _ _ _ c.requires.0 (sym c.cell_range.ensures ∙ c.in-Some.is); few = c.requires.1 }

pub returns-in-None : goal.returns-in-None
returns-in-None c = no_range _ _ _ _ _ _ _ (sym c.cell_range.ensures ∙ c.in-None.is) c.clear.ensures

pub returns-in-Some : goal.returns-in-Some
returns-in-Some c = with_range _ _ _ _ _ _ _ _ _ (sym c.cell_range.ensures ∙ c.in-Some.is) c.range_query.ensures

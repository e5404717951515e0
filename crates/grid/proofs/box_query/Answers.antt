-- `grid::box_query` meets its contract. Assumes nothing.
use native.Mathlib.Omega.{arith}
use mathlib.Core.Path.{refl, sym, ◌∙◌}
use Rattle.grid.specs.Query.{outcome, outcome_by}
use Rattle.grid.proofs.Ranges.{range_in}
use Rattle.grid.proofs.box_query.Goals as goal

pub range_query-requires : goal.range_query-requires
range_query-requires c = record { sound_grid = c.requires; in_grid = range_in _ _ _ c.requires.has_cols c.requires.has_rows (omega (arith, c.well_formed)) (omega (arith, c.well_formed)) (sym c.cell_range.ensures ∙ c.in-Some.is) }

pub returns-in-None : goal.returns-in-None
unfolding outcome outcome_by
returns-in-None c =
    let k = sym c.cell_range.ensures ∙ c.in-None.is in
    rw k (record { answer_is = refl; marks_are = refl; epoch_is = refl; ids_are = c.clear.ensures })

pub returns-in-Some : goal.returns-in-Some
unfolding outcome outcome_by
returns-in-Some c =
    let k = sym c.cell_range.ensures ∙ c.in-Some.is in
    rw k c.range_query.ensures

-- `extent::cell_from` meets its contract. Assumes nothing.
use Rattle.std.proofs.Common.{eq-eqb, ne_eqb}
use Rattle.extent.specs.Extent.{cell_from}
use Rattle.extent.proofs.cell_from.Goals as goal

pub returns-then-s-eq0 : goal.returns-then-s-eq0
unfolding cell_from
returns-then-s-eq0 c = simp (eq-eqb _ _ c.if-s-eq0.true, ← c.side.ensures, ← c.max.ensures)

pub returns : goal.returns
unfolding cell_from
returns c = simp (ne_eqb _ _ c.if-s-eq0.false, ← c.nearest_u64_to_f64.ensures, ← c.width.ensures, ← c.height.ensures, ← c.sqrt-min_for_cap.ensures, ← c.max-2.ensures, ← c.max-3.ensures)

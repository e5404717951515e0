-- `grid::cell_items` meets its contract. Assumes nothing.
use Rattle.grid.proofs.Rows.{cell_past, cell_none, cell_part}
use mathlib.Core.Path.{refl}
use Rattle.grid.proofs.cell_items.Goals as goal

pub returns-then-starts-c : goal.returns-then-starts-c
returns-then-starts-c c = cell_past c.args.starts.now c.args.items.now c.args.c c.if-starts-c.true

pub returns-then-z-a : goal.returns-then-z-a
returns-then-z-a c = cell_none c.args.starts.now c.args.items.now c.args.c _ _ _ refl c.at.ensures c.min-z.ensures c.if-z-a.true

pub returns : goal.returns
returns c = cell_part c.args.starts.now c.args.items.now c.args.c _ _ _ refl c.at.ensures c.min-z.ensures

-- `grid::held` meets its contract. Assumes nothing.
use native.Mathlib.Omega.{arith}
use Rattle.grid.specs.Range.{range_by}
use Rattle.grid.proofs.Direct.{floor_below, floor_above}
use Rattle.grid.proofs.held.Goals as goal

pub returns-then-c1 : goal.returns-then-c1
unfolding range_by
returns-then-c1 c = rw (floor_below c.args.c1, c.if-c1.true)

pub returns-then-r1 : goal.returns-then-r1
unfolding range_by
returns-then-r1 c = rw (floor_below c.args.c1, c.if-c1.false, floor_below c.args.r1, c.if-r1.true)

pub returns-then-c0-nc : goal.returns-then-c0-nc
unfolding range_by
returns-then-c0-nc c = rw (floor_below c.args.c1, c.if-c1.false, floor_below c.args.r1, c.if-r1.false, floor_above c.args.nc c.args.c0 (omega arith) (omega arith), c.if-c0-nc.true)

pub returns-then-r0-nr : goal.returns-then-r0-nr
unfolding range_by
returns-then-r0-nr c = rw (floor_below c.args.c1, c.if-c1.false, floor_below c.args.r1, c.if-r1.false, floor_above c.args.nc c.args.c0 (omega arith) (omega arith), c.if-c0-nc.false, floor_above c.args.nr c.args.r0 (omega arith) (omega arith), c.if-r0-nr.true)

pub returns-then-empty : goal.returns-then-empty
unfolding range_by
returns-then-empty c = rw (floor_below c.args.c1, c.if-c1.false, floor_below c.args.r1, c.if-r1.false, floor_above c.args.nc c.args.c0 (omega arith) (omega arith), c.if-c0-nc.false, floor_above c.args.nr c.args.r0 (omega arith) (omega arith), c.if-r0-nr.false, c.if-empty.true)

pub returns : goal.returns
unfolding range_by
returns c =
    rw (
      floor_below c.args.c1,
      c.if-c1.false,
      floor_below c.args.r1,
      c.if-r1.false,
      floor_above c.args.nc c.args.c0 (omega arith) (omega arith),
      c.if-c0-nc.false,
      floor_above c.args.nr c.args.r0 (omega arith) (omega arith),
      c.if-r0-nr.false,
      c.if-empty.false,
      c.cell_index.ensures,
      c.cell_index-2.ensures,
      c.cell_index-3.ensures,
      c.cell_index-4.ensures,
    )

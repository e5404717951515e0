-- `near::gather` meets its contract. Assumes nothing.
use Rattle.near.proofs.Gathering.{gather_none, gather_done}
use Rattle.near.proofs.Ways.{small_at, gather_step}
use native.Mathlib.Omega.{arith}
use Rattle.near.proofs.gather.Goals as goal

pub loop-id-init : goal.loop-id-init
loop-id-init c = gather_none _ _ _ _ _ c.requires.n_in_bounds

pub gather_one-t-requires : goal.gather_one-t-requires
gather_one-t-requires c = record { small_in = (small_at _ _ _ c.requires.askable _ c.cell_range.result _ c.cell_range.ensures c.cells_shared-s.ensures, omega (arith, c.requires.askable.few)); found_le_id = (c.loop-id.invariant.few, c.loop-id.invariant.small) }

pub loop-id-preserved : goal.loop-id-preserved
loop-id-preserved c = gather_step _ _ _ c.requires.askable _ _ _ _ _ _ _ _ _ _ c.loop-id.invariant c.loop-id-test.true c.box_of.ensures c.cell_range.ensures c.cells_shared-s.ensures c.gather_one-t.ensures

pub returns : goal.returns
returns c = gather_done _ _ _ _ _ _ _ c.loop-id.invariant c.loop-id-test.false

-- `walk::set_out` meets its contract. Assumes nothing.
use Rattle.walk.specs.Clipping.{set_out_of}
use Rattle.walk.proofs.set_out.Goals as goal

pub returns : goal.returns
unfolding set_out_of
returns c = simp (← c.mul.ensures, ← c.add-start.ensures, ← c.index_at-col.ensures, ← c.index_at-row.ensures, ← c.axis_setup-x.ensures, ← c.axis_setup-y.ensures)

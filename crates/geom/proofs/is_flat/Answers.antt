-- `geom::is_flat` meets its contract. Assumes nothing.
use Rattle.geom.proofs.Sizes.{below_zero, from_zero}
use Rattle.geom.specs.Constants.{flat}
use Rattle.geom.specs.Segment.{is_flat}
use Rattle.geom.proofs.is_flat.Goals as goal
use Rattle.geom.proofs.is_flat.Goals.{else-denom, then-denom}

pub returns : goal.returns
unfolding is_flat
returns c = elim c.if-denom.branch [ then-denom w ↦ rw w.size-is (below_zero c.args.denom flat w.if-denom.true) | else-denom w ↦ rw w.size-is (from_zero c.args.denom flat w.if-denom.false) ]

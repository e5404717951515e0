-- `fan::facing`: the cross product as the Rust computes it. Assumes nothing.
use Rattle.fan.specs.Sides.{facing}
use Rattle.fan.proofs.facing.Goals as goal

pub returns : goal.returns
unfolding facing
returns c = simp (← c.sub.ensures, ← c.sub-2.ensures, ← c.cross.ensures)

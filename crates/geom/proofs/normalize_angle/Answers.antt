-- `geom::normalize_angle` meets its contract. Assumes nothing.
use Rattle.geom.specs.Segment.{normal_of}
use Rattle.geom.proofs.normalize_angle.Goals as goal

pub returns-then-r : goal.returns-then-r
unfolding normal_of
returns-then-r c = simp (← c.rem_euclid-r.ensures, c.if-r.true)

pub returns : goal.returns
unfolding normal_of
returns c = simp (← c.rem_euclid-r.ensures, c.if-r.false)

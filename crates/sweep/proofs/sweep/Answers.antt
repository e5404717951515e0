-- `sweep`: the walk from where the outline begins.
use Rattle.std.proofs.Common.{◌∙◌, arith}
use Rattle.sweep.proofs.Ways.{swept, swept_long}
use Rattle.sweep.proofs.sweep.Goals as goal

pub walk-requires : goal.walk-requires
walk-requires c = (record { long = c.requires.0; points = omega (arith, c.begin-s.ensures.pushed.within, c.begin-s.auto.pts); owners = c.begin-s.ensures.pushed.owners; casts = c.begin-s.ensures.pushed.refinements }, c.requires.1)

pub shape_of-words : goal.shape_of-words
shape_of-words c = c.walk.auto.words

pub shape_of-pts : goal.shape_of-pts
shape_of-pts c = c.walk.auto.pts ∙ c.begin-s.auto.pts

pub shape_of-marks : goal.shape_of-marks
shape_of-marks c = c.walk.auto.marks

pub returns : goal.returns
returns c = record { result_after = swept _ _ _ _ _ _ _ c.begin-s.ensures.result_after c.walk.ensures.result_after; swept = (swept_long c.begin-s.auto.pts c.walk.ensures.swept.0, c.walk.ensures.swept.1) }

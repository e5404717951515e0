-- `area`: the absolute value of the signed area. Assumes nothing.
use Rattle.visibility.specs.Beside.{area_of}
use Rattle.num.specs.Num.{abs_of}
use mathlib.Core.Path.{ap, ◌∙◌}
use Rattle.visibility.proofs.area.Goals as goal

pub returns : goal.returns
unfolding area_of
returns c = c.abs.ensures ∙ ap abs_of c.signed_area.ensures

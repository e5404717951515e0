-- `fan::front_edges`: the counts of the defined run, and the lists where they fit. Assumes nothing.
use Rattle.fan.proofs.Scanning.{scanned}
use mathlib.Core.Path.{refl}
use Rattle.fan.proofs.front_edges.Goals as goal

pub returns : goal.returns
returns c = scanned c.scan-t.ensures _ refl refl refl refl refl

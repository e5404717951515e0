-- `nearer`: an edge counts where it is hit nearer than all before, and one as near by its number. Assumes nothing.
use Rattle.sight.proofs.Ways.{nearer_hit, nearer_level, nearer_far, nearer_miss}
use mathlib.Core.Path.{◌≡◌}
use mathlib.Core.Bool.{false}
use lib.Ieee.{lt}
use Rattle.sight.proofs.nearer.Goals as goal

pub returns-in-Some : goal.returns-in-Some
returns-in-Some c = nearer_hit _ _ _ _ _ _ c.in-Some.is c.if-t-best.true c.edge_number.ensures

pub returns-in-Some-2 : goal.returns-in-Some-2
returns-in-Some-2 c =
    let far : lt c.in-Some-2.t c.args.best.t ≡ false = cc in
    nearer_level _ _ _ _ _ c.in-Some-2.is far c.if-t-best-2.true c.edge_number-in-Some-2.ensures c.level.ensures

pub returns-in_default : goal.returns-in_default
returns-in_default c =
    let far : lt c.in-Some-2.t c.args.best.t ≡ false = cc in
    nearer_far _ _ _ _ _ c.in-Some-2.is far c.if-t-best-2.false

pub returns-in_default-2 : goal.returns-in_default-2
returns-in_default-2 c = nearer_miss _ _ _ _ c.in_default.is

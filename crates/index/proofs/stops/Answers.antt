-- `stops`: both modes. Assumes nothing.
use Rattle.index.proofs.Ways.{stop_rust, stop_ties}
use Rattle.index.proofs.stops.Goals as goal

pub returns-then-mode-eq0 : goal.returns-then-mode-eq0
returns-then-mode-eq0 c = stop_rust c.args.mode c.if-mode-eq0.true c.args.best c.args.near

pub returns : goal.returns
returns c = stop_ties c.args.mode c.if-mode-eq0.false c.args.best c.args.near

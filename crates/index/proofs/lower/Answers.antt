-- `lower`: the lower number, the mode of the Rust, none yet. Assumes nothing.
use Rattle.index.proofs.Ways.{lower_so, lower_rust, lower_none}
use Rattle.index.proofs.lower.Goals as goal

pub returns-in-Some : goal.returns-in-Some
returns-in-Some c = cc (lower_so c.args.mode c.args.edge c.args.b c.if-mode-ne0.true _ c.in-Some.is)

pub returns-in_default : goal.returns-in_default
returns-in_default c = lower_rust c.args.mode c.args.edge c.args.b c.if-mode-ne0.false

pub returns-in_default-2 : goal.returns-in_default-2
returns-in_default-2 c = lower_none c.args.mode c.args.edge c.args.b c.in_default.is

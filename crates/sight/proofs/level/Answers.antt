-- `level`: the lower number, the Rust's mode. Assumes nothing.
use Rattle.sight.proofs.Ways.{level_rust, level_least}
use Rattle.sight.proofs.level.Goals as goal

pub returns-in-Some : goal.returns-in-Some
returns-in-Some c = cc (level_least c.args.mode c.args.best c.args.e c.if-mode-ne0.true _ c.in-Some.is)

pub returns-in_default : goal.returns-in_default
returns-in_default c = level_rust c.args.mode c.args.best c.args.e c.if-mode-ne0.false

-- `cut`: the later beginning and the earlier end. Assumes nothing.
use Rattle.std.proofs.Common.{◌≡◌, max, arith}
use Rattle.index.proofs.cut.Goals as goal

pub returns : goal.returns
returns c =
    let e : c.max.result ≡ max c.args.lo c.args.s.from = omega (arith, c.max.ensures) in
    rw (e, c.min.ensures)

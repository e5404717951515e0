-- `wkt_print::rounded` meets its contract. Assumes nothing.
use mathlib.Core.Path.{sym}
use native.Mathlib.Omega.{arith}
use Rattle.wkt_print.proofs.Limbs.{far, is_under, is_half, is_over_half, is_over}
use Rattle.wkt_print.proofs.rounded.Goals as goal
use Rattle.wkt_print.proofs.rounded.Goals.{else-r-d-2-via-then-r-d-2+else-b-eq0, else-r-d-2-via-else-r-d-2}

pub returns-then-k-ge90 : goal.returns-then-k-ge90
returns-then-k-ge90 c = sym (far c.args.n c.args.c c.args.k c.requires.0 c.requires.1 (omega arith))

pub returns-then-r-d : goal.returns-then-r-d
returns-then-r-d c = is_under c.args.n c.args.c c.args.k c.two_to-d.result c.requires.2 c.two_to-d.ensures (omega arith)

pub returns-then-b-eq0 : goal.returns-then-b-eq0
returns-then-b-eq0 c = is_half c.args.n c.args.c c.args.k c.two_to-d.result c.requires.2 c.two_to-d.ensures (omega arith) (omega arith)

pub returns : goal.returns
returns c =
    elim c.else-r-d-2.branch [
      | else-r-d-2-via-then-r-d-2+else-b-eq0 w ↦ is_over_half c.args.n c.args.c c.args.k c.two_to-d.result c.requires.2 c.two_to-d.ensures w.if-r-d-2.true w.if-b-eq0.false
      | else-r-d-2-via-else-r-d-2 w ↦ is_over c.args.n c.args.c c.args.k c.two_to-d.result c.requires.2 c.two_to-d.ensures (omega (arith, w.if-r-d-2.false))
    ]

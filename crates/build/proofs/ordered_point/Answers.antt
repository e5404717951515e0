-- `ordered_point`: from the other end where the polygon is reversed (Orders). Assumes nothing.
use mathlib.Core.Path.{sym, ◌∙◌}
use Rattle.build.proofs.Orders.{ordered_given, ordered_turned}
use Rattle.build.proofs.ordered_point.Goals as goal
use Rattle.build.proofs.ordered_point.Goals.{then-reversed, else-reversed}

pub returns : goal.returns
returns c =
    c.given_point.ensures ∙ sym (elim c.if-reversed.branch [
      | then-reversed w ↦ rw (w.if-reversed.true, w.at-is) (ordered_turned c.args.given.now c.args.first c.args.len c.requires.0 c.args.i c.requires.1)
      | else-reversed w ↦ rw (w.if-reversed.false, w.at-is) (ordered_given c.args.given.now c.args.first c.args.len c.requires.0 c.args.i c.requires.1)
    ])

-- `stored_box`: empty for fewer than three points, otherwise the box around the points as stored. Assumes nothing.
use mathlib.Core.Path.{◌∙◌}
use Rattle.build.proofs.Orders.{box_few, box_many}
use Rattle.build.proofs.stored_box.Goals as goal

pub returns-then-len-lt3 : goal.returns-then-len-lt3
returns-then-len-lt3 c = c.empty.ensures ∙ box_few c.args.given.now c.args.first c.args.len c.requires c.if-len-lt3.true

pub returns : goal.returns
returns c = box_many c.args.given.now c.args.first c.args.len c.requires _ c.is_reversed.result c.if-len-lt3.false c.is_reversed.ensures c.box_around.ensures

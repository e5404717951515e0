-- `wkt_print::scaled` meets its contract. Assumes nothing.
use mathlib.Core.Path.{◌∙◌}
use Rattle.wkt_print.proofs.Bits.{scaled_neg, neg_not}
use lib.Ieee.{of_bits}
use Rattle.wkt_print.proofs.scaled.Goals as goal

pub scaled_up-requires : goal.scaled_up-requires
unfolding of_bits
scaled_up-requires c = (c.requires, neg_not _ c.if-x.true)

pub returns-then-x : goal.returns-then-x
returns-then-x c = c.scaled_up.ensures ∙ scaled_neg _ _

-- `walk::index_at` meets its contract. Assumes nothing.
use Rattle.walk.proofs.Indices.{held_below, held_above}
use mathlib.Core.Path.{◌∙◌}
use Rattle.num.specs.Num.{floor_of}
use Rattle.walk.specs.Clipping.{index_of}
use borrow.Author.Rules.{rules}
use Rattle.walk.proofs.index_at.Goals as goal

pub returns-then-i-last : goal.returns-then-i-last
unfolding index_of
returns-then-i-last c = held_below (floor_of c.args.at) c.args.last c.to_u64-i.result (search rules) (c.to_u64-i.ensures ∙ rw c.floor.ensures) c.if-i-last.true

pub returns-else-i-last : goal.returns-else-i-last
unfolding index_of
returns-else-i-last c = held_above (floor_of c.args.at) c.args.last c.to_u64-i.result (search rules) (c.to_u64-i.ensures ∙ rw c.floor.ensures) c.if-i-last.false

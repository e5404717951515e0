-- `near::range_query` meets its contract. Assumes nothing.
use native.Mathlib.Omega.{arith}
use Rattle.near.proofs.Answering.{found_few, refused, answered}
use borrow.Author.Rules.{rules}
use Rattle.near.proofs.range_query.Goals as goal

pub returns-then-ids-found : goal.returns-then-ids-found
returns-then-ids-found c = refused _ _ _ _ c.requires.inside.c1_in c.requires.few _ _ c.gather-t.ensures _ _ c.if-ids-found.true c.clear.ensures

pub sort_numbers-requires : goal.sort_numbers-requires
sort_numbers-requires c = let f = found_few _ _ _ _ c.requires.inside.c1_in c.requires.few _ _ c.gather-t.ensures in (omega (arith, f, c.requires.few), search rules)

pub write_ids-requires : goal.write_ids-requires
write_ids-requires c = let f = found_few _ _ _ _ c.requires.inside.c1_in c.requires.few _ _ c.gather-t.ensures in (omega (arith, f, c.requires.few), omega (arith, c.if-ids-found.false))

pub returns : goal.returns
returns c = answered _ _ _ _ c.requires.inside.c1_in c.requires.few _ _ c.gather-t.ensures _ _ _ _ c.if-ids-found.false c.sort_numbers.ensures c.write_ids.ensures c.write_ids.auto.ids c.clear_from.ensures

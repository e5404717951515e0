-- `merge_sorted`: the events read in order are the events sorted. Assumes nothing.
use Rattle.std.proofs.Common.{refl}
use mathlib.Core.Path.{◌∙◌}
use native.Mathlib.Omega.{arith}
use Rattle.lists.proofs.Only.{only_refl}
use Rattle.events.proofs.Ordering.{ordered_at, turns, merges, framed, merges_none}
use Rattle.events.proofs.merge_sorted.Goals as goal

pub returns-then-m-eq0 : goal.returns-then-m-eq0
returns-then-m-eq0 c = record { merges = merges_none c.args.k c.args.floats.now c.args.words.now c.args.m c.args.floats.now c.args.words.now c.if-m-eq0.true; only = (only_refl _ _ _, only_refl _ _ _) }

pub merge_turns-requires : goal.merge_turns-requires
merge_turns-requires c = turns c.args.k c.args.floats.now c.args.words.now c.order_keys.new.us c.args.m c.requires.0 c.requires.1 (ordered_at c.args.k c.args.floats.now c.args.words.now c.order_keys.new.us c.args.m c.events_f-from.ensures refl c.turns_w-to.ensures c.merged_w-end.ensures c.order_keys.ensures) (omega (arith, c.if-m-eq0.false))

pub shape_of-floats : goal.shape_of-floats
shape_of-floats c = c.merge_turns.auto.floats

pub shape_of-words : goal.shape_of-words
shape_of-words c = c.merge_turns.auto.words ∙ c.order_keys.auto.us

pub returns : goal.returns
returns c = record { merges = merges c.args.k c.args.floats.now c.args.words.now c.order_keys.new.us c.args.m c.requires.0 c.requires.1 (ordered_at c.args.k c.args.floats.now c.args.words.now c.order_keys.new.us c.args.m c.events_f-from.ensures refl c.turns_w-to.ensures c.merged_w-end.ensures c.order_keys.ensures) c.merge_turns.new.floats c.merge_turns.new.words c.merge_turns.result c.merge_turns.ensures.done; only = framed c.args.k c.args.floats.now c.args.words.now c.order_keys.new.us c.args.m c.requires.0 c.requires.1 (ordered_at c.args.k c.args.floats.now c.args.words.now c.order_keys.new.us c.args.m c.events_f-from.ensures refl c.turns_w-to.ensures c.merged_w-end.ensures c.order_keys.ensures) c.merge_turns.new.floats c.merge_turns.new.words c.merge_turns.ensures.frame }

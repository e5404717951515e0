-- `merge_events`: with the sides of a sector, without them, or without room for them. Assumes nothing.
use mathlib.Core.Path.{refl, ◌∙◌}
use native.Mathlib.Omega.{arith}
use Rattle.lists.proofs.Only.{only_refl}
use Rattle.events.proofs.Sides.{full_sides, with_sides, no_sides, wider, both}
use Rattle.events.proofs.merge_events.Goals as goal

pub shape_of-floats-then-full : goal.shape_of-floats-then-full
shape_of-floats-then-full c = c.merge_sorted.auto.floats

pub shape_of-words-then-full : goal.shape_of-words-then-full
shape_of-words-then-full c = c.merge_sorted.auto.words

pub returns-then-full : goal.returns-then-full
returns-then-full c = record { merges = full_sides c.args.k c.args.floats.now c.args.floats.now c.merge_sorted.new.floats c.args.words.now c.args.words.now c.merge_sorted.new.words c.args.n c.merge_sorted.result c.args.full c.args.fov c.if-full.true c.merge_sorted.ensures.merges; only = wider c.args.k c.args.floats.now c.args.floats.now c.merge_sorted.new.floats c.args.words.now c.args.words.now c.merge_sorted.new.words c.merge_sorted.ensures.only }

pub returns-then-k-n-lt2 : goal.returns-then-k-n-lt2
returns-then-k-n-lt2 c = record { merges = no_sides c.args.k c.args.floats.now c.args.floats.now c.args.floats.now c.args.words.now c.args.words.now c.args.words.now c.args.n _ c.args.full c.args.fov c.if-full.false (omega (arith, c.if-k-n-lt2.true)) refl (omega (arith)); only = (only_refl _ _ _, only_refl _ _ _) }

pub shape_of-floats : goal.shape_of-floats
shape_of-floats c = c.merge_sorted-2.auto.floats ∙ c.push_sides.auto.floats

pub shape_of-words : goal.shape_of-words
shape_of-words c = c.merge_sorted-2.auto.words ∙ c.push_sides.auto.words

pub returns : goal.returns
returns c = record { merges = with_sides c.args.k c.args.floats.now c.push_sides.new.floats c.merge_sorted-2.new.floats c.args.words.now c.push_sides.new.words c.merge_sorted-2.new.words c.args.n c.merge_sorted-2.result c.args.full c.args.fov c.if-full.false c.push_sides.ensures.n_after c.merge_sorted-2.ensures.merges; only = both c.args.k c.args.floats.now c.push_sides.new.floats c.merge_sorted-2.new.floats c.args.words.now c.push_sides.new.words c.merge_sorted-2.new.words c.push_sides.ensures.only c.merge_sorted-2.ensures.only }

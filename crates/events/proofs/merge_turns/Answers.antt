-- `merge_turns`: the last event closed, or no room for a corner. Assumes nothing.
use Rattle.std.proofs.Common.{refl}
use mathlib.Core.Path.{◌∙◌}
use Rattle.events.proofs.Loop.{full_done, close_last, last_done}
use Rattle.events.proofs.Reading.{frame_trans}
use Rattle.events.proofs.merge_turns.Goals as goal

pub close-requires : goal.close-requires
close-requires c = close_last c.args.k c.args.floats.now c.args.words.now c.args.m c.requires c.gather.new.floats c.gather.new.words c.gather.ensures.ends c.gather.ensures.frame c.in-Some.g c.in-Some.is

pub shape_of-floats-in_default : goal.shape_of-floats-in_default
shape_of-floats-in_default c = c.gather.auto.floats

pub shape_of-words-in_default : goal.shape_of-words-in_default
shape_of-words-in_default c = c.gather.auto.words

pub returns-in_default : goal.returns-in_default
returns-in_default c = record { done = full_done c.args.k c.args.floats.now c.args.words.now c.args.m c.requires c.gather.new.floats c.gather.new.words c.gather.ensures.ends c.gather.ensures.frame c.in_default.is refl; frame = c.gather.ensures.frame }

pub shape_of-floats : goal.shape_of-floats
shape_of-floats c = c.close.auto.floats ∙ c.gather.auto.floats

pub shape_of-words : goal.shape_of-words
shape_of-words c = c.close.auto.words ∙ c.gather.auto.words

pub returns : goal.returns
returns c = record { done = last_done c.args.k c.args.floats.now c.args.words.now c.args.m c.requires c.gather.new.floats c.gather.new.words c.gather.ensures.ends c.gather.ensures.frame c.in-Some.g c.in-Some.is c.close.new.floats c.close.new.words c.close.ensures refl refl refl; frame = frame_trans c.gather.ensures.frame c.close.ensures.frame }

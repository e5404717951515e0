-- `seen_from`: the plan, the query, the drawing, and the zeroing. Assumes nothing.
use Rattle.std.proofs.Common.{refl}
use Rattle.view.proofs.Asking.{drawable, shows_fits, seen_is}
use Rattle.view.specs.Outcome.{lent}
use Rattle.site.proofs.SoundLaws.{grid_sound}
use lib.ListN.{length}
use Prim.Native.Nat.{ℕ, min}
use native.Mathlib.Omega.{arith}
use mathlib.Core.Path.{ap, ◌∙◌}
use Rattle.view.proofs.seen_from.Goals as goal

pub look-ids-requires : goal.look-ids-requires
look-ids-requires c = (grid_sound c.requires, omega (arith, c.min-room.ensures))

pub drawn-a-requires : goal.drawn-a-requires
drawn-a-requires c = drawable _ _ c.requires _ _ _ _ _ _ c.args.words.now _ _ _ _ _ c.is_short-short.ensures (c.min-room.ensures ∙ ap (λ (n : ℕ). min n (length c.args.words.now)) refl) c.look-ids.auto.words c.look-ids.ensures

pub clear-requires : goal.clear-requires
clear-requires c = shows_fits _ _ c.drawn-a.ensures

pub shape_of-marks : goal.shape_of-marks
shape_of-marks c = c.look-ids.auto.marks

pub shape_of-floats : goal.shape_of-floats
shape_of-floats c = c.clear.auto.floats ∙ c.drawn-a.auto.floats

pub shape_of-words : goal.shape_of-words
shape_of-words c = c.clear.auto.words ∙ c.drawn-a.auto.words ∙ c.look-ids.auto.words

pub shape_of-outline : goal.shape_of-outline
shape_of-outline c = c.clear.auto.outline ∙ c.drawn-a.auto.outline

pub shape_of-visible : goal.shape_of-visible
shape_of-visible c = c.clear.auto.visible ∙ c.drawn-a.auto.visible

pub returns : goal.returns
returns c = seen_is _ _ _ _ _ _ (lent c.args.marks.now c.args.epoch.now c.args.floats.now c.args.words.now c.args.outline.now c.args.visible.now) c.plan_of-p.ensures c.is_short-short.ensures (c.min-room.ensures ∙ ap (λ (n : ℕ). min n (length c.args.words.now)) refl) c.look-ids.ensures c.drawn-a.ensures c.drawn-a.auto.floats (c.drawn-a.auto.words ∙ c.look-ids.auto.words) c.drawn-a.auto.outline c.drawn-a.auto.visible c.clear.ensures

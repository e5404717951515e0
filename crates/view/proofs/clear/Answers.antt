-- `clear`: four slices cleared. Assumes nothing.
use Rattle.num.specs.Ops.{zero_f}
use lib.ListN.{length, take, replicate}
use Prim.Native.Nat.{ℕ, ◌-◌, ◌*◌}
use mathlib.Core.List.{◌++◌}
use mathlib.Core.Path.{ap, ◌∙◌}
use Rattle.view.proofs.clear.Goals as goal

pub shape_of-floats : goal.shape_of-floats
shape_of-floats c = c.clear.auto.s

pub shape_of-words : goal.shape_of-words
shape_of-words c = c.clear-2.auto.s

pub shape_of-outline : goal.shape_of-outline
shape_of-outline c = c.clear_from.auto.s

pub shape_of-visible : goal.shape_of-visible
shape_of-visible c = c.clear_from-2.auto.s

pub returns : goal.returns
returns c = record { floats = c.clear.ensures; words = c.clear-2.ensures; outline = c.clear_from.ensures ∙ ap (λ (n : ℕ). take (2 * n) c.args.outline.now ++ replicate (length c.args.outline.now - 2 * n) zero_f) c.points_in.ensures; visible = c.clear_from-2.ensures ∙ ap (λ (n : ℕ). take n c.args.visible.now ++ replicate (length c.args.visible.now - n) 0) c.ids_in.ensures }

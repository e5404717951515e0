-- `grid::stamp_part` meets its contract. Assumes nothing.
use Rattle.grid.proofs.Stamping.{met_new, met_seen, begun, moved, end_marks, end_count, end_ids}
use Rattle.lists.proofs.Parts.{drop_here}
use lib.ListN.{drop_of_length-le}
use mathlib.Core.Path.{refl, sym, ◌∙◌}
use borrow.Author.Rules.{rules}
use native.Mathlib.Omega.{arith}
use Rattle.grid.proofs.stamp_part.Goals as goal
use Rattle.grid.proofs.stamp_part.Goals.{then-mark, else-mark}

pub loop-id-init : goal.loop-id-init
loop-id-init c = (search rules, begun _ _ _ _ _)

pub loop-id-preserved : goal.loop-id-preserved
loop-id-preserved c =
    let l = moved c.loop-id.invariant.1 (sym (drop_here _ _ 0 c.loop-id-test.true)) refl refl refl in
    elim c.if-mark.branch [
      | then-mark w ↦ (omega (arith, w.at-is), moved (met_new l (sym c.mark.ensures.value ∙ w.if-mark.true)) refl c.mark.ensures.marks_after (w.ids-is ∙ w.put.ensures) w.at-is)
      | else-mark w ↦ (omega (arith, w.at-is), moved (met_seen l (sym c.mark.ensures.value ∙ w.if-mark.false)) refl c.mark.ensures.marks_after w.ids-is w.at-is)
    ]

pub returns : goal.returns
returns c = let l = moved c.loop-id.invariant.1 (sym (drop_of_length-le _ c.loop-id-test.false)) refl refl refl in record { value = end_count l; marks_after = end_marks l; ids_after = end_ids l }

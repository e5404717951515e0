-- `site::boxes_right` meets its contract. Assumes nothing.
use mathlib.Core.Path.{◌≡◌, ap, ◌∙◌}
use native.Mathlib.Numerals.{add-one}
use Rattle.site.specs.Soundness.{box_right, boxes_right}
use Rattle.lists.specs.Members.{all_to}
use native.Mathlib.Omega.{arith}
use Rattle.site.proofs.boxes_right.Goals as goal

pub loop-k-preserved : goal.loop-k-preserved
unfolding box_right
loop-k-preserved c = simp (add-one, c.same_box-ok.ensures, c.box_of.ensures, c.box_at.ensures, c.loop-k.invariant)

pub returns : goal.returns
unfolding boxes_right
returns c =
    let e : c.loop-k.k ≡ c.args.n = omega arith in
    c.loop-k.invariant ∙ ap (all_to _) e

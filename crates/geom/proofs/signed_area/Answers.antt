-- `geom::signed_area` meets its contract. Assumes nothing.
use Rattle.geom.specs.Ring.{area_up_to, signed_area_of}
use Rattle.geom.specs.Constants.{half}
use Rattle.num.specs.Ops.{◌⊗◌}
use lib.Ieee.{Float}
use Rattle.std.proofs.Common.{refl, ap, ◌∙◌, mod-lt, le_antisymm, add-one, arith}
use Rattle.geom.proofs.signed_area.Goals as goal

pub loop-i-init : goal.loop-i-init
unfolding area_up_to
loop-i-init c = refl

pub corner-a-requires : goal.corner-a-requires
corner-a-requires c = omega arith

pub nonzero_rem-i : goal.nonzero_rem-i
nonzero_rem-i c = omega arith

pub corner-b-requires : goal.corner-b-requires
corner-b-requires c = mod-lt _ (omega arith)

pub loop-i-preserved : goal.loop-i-preserved
unfolding area_up_to
loop-i-preserved c = simp (add-one, c.cross-s.ensures, c.corner-b.ensures, c.corner-a.ensures, c.loop-i.invariant)

pub returns : goal.returns
unfolding signed_area_of
returns c = ap (λ (s : Float). half ⊗ s) (c.loop-i.invariant ∙ ap (area_up_to _) (le_antisymm (omega arith) c.loop-i-test.false))

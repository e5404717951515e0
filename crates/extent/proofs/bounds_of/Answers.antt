-- `extent::bounds_of` meets its contract. Assumes nothing.
use Rattle.extent.proofs.Steps.{bounds_none, bounds_step}
use Rattle.extent.specs.Extent.{bounds_of}
use Rattle.extent.specs.Boxes.{boxes_of}
use Rattle.grid.specs.Boxes.{box_at}
use Rattle.lists.specs.Lists.{listed}
use Rattle.std.proofs.Common.{◌≡◌, ℕ, ap, ◌∙◌, arith}
use Rattle.extent.proofs.bounds_of.Goals as goal

pub loop-i-init : goal.loop-i-init
loop-i-init c = bounds_none _ _

pub loop-i-preserved : goal.loop-i-preserved
loop-i-preserved c = rw (c.join_box-b.ensures, c.box_at.ensures, c.loop-i.invariant) (bounds_step c.args.width c.args.height c.args.boxes.now c.loop-i.i)

pub returns : goal.returns
unfolding boxes_of
returns c = let e : c.loop-i.i ≡ c.count-i-end.result = omega arith in c.loop-i.invariant ∙ ap (λ (k : ℕ). bounds_of c.args.width c.args.height (listed (box_at c.args.boxes.now) k)) (e ∙ c.count-i-end.ensures)

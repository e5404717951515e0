-- `cone::steps` meets its contract: the quotient is small (proofs/FewSteps.antt). Assumes nothing.
use mathlib.Core.Path.{◌≡◌}
use native.Mathlib.Omega.{arith}
use lib.Ieee.{to_unsigned}
use Rattle.num.specs.Ops.{◌⊘◌}
use Rattle.num.specs.Num.{ceil_of}
use Rattle.cone.specs.Cone.{fov_of, reach_of, arc_step_of, steps_of}
use Rattle.cone.proofs.FewSteps.{few}
use Rattle.cone.proofs.steps.Goals as goal

pub overflow_cast-result : goal.overflow_cast-result
overflow_cast-result c =
    let e : c.to_u64-n.result ≡ to_unsigned 64 (ceil_of (fov_of c.args.cone ⊘ arc_step_of (reach_of c.args.cone) c.args.tolerance)) =
    simp (c.to_u64-n.ensures, c.ceil.ensures, c.arc_step.ensures, c.reach.ensures, c.fov_of.ensures) in
    omega (arith, e, few c.args.cone c.args.tolerance, c.max.ensures)

pub returns : goal.returns
unfolding steps_of
returns c = simp (c.max.ensures, c.to_u64-n.ensures, c.ceil.ensures, c.arc_step.ensures, c.reach.ensures, c.fov_of.ensures)

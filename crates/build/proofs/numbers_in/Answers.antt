-- `numbers_in`: one number a turn. Assumes nothing.
use mathlib.Core.Path.{◌≡◌, ap, ◌∙◌}
use native.Mathlib.Omega.{arith}
use lib.ListN.{length}
use Rattle.lists.specs.Members.{all_to}
use Rattle.build.specs.Refusals.{numbers_in}
use Rattle.build.proofs.numbers_in.Goals as goal

pub returns : goal.returns
unfolding numbers_in
returns c =
    let e : c.loop-x.x-index ≡ length c.args.given.now = omega arith in
    c.loop-x.invariant ∙ ap (all_to _) e

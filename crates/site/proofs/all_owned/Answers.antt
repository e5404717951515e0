-- `site::all_owned` meets its contract. Assumes nothing.
use mathlib.Core.Path.{◌≡◌, ap, ◌∙◌}
use Rattle.site.specs.Soundness.{all_owned}
use Rattle.lists.specs.Members.{all_to}
use native.Mathlib.Omega.{arith}
use Rattle.site.proofs.all_owned.Goals as goal

pub returns : goal.returns
unfolding all_owned
returns c =
    let e : c.loop-i.i ≡ c.args.m = omega arith in
    c.loop-i.invariant ∙ ap (all_to _) e

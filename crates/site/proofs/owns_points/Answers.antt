-- `site::owns_points` meets its contract. Assumes nothing.
use mathlib.Core.Path.{◌≡◌, ap, ◌∙◌}
use Prim.Native.Nat.{◌+◌, ◌-◌}
use native.Mathlib.Omega.{arith}
use lib.ListN.{drop, length-take, length-drop}
use Rattle.lists.specs.Members.{all_to}
use Rattle.site.specs.Tables.{len_of}
use Rattle.site.specs.Soundness.{owns}
use Rattle.site.proofs.owns_points.Goals as goal

pub returns : goal.returns
unfolding owns
returns c =
    let n = length-take (c.first_of-first.result + c.len_of.result - c.first_of-first.result) (drop c.first_of-first.result c.args.owners.now) in
    let m = length-drop c.first_of-first.result c.args.owners.now in
    let e : c.loop-owner.owner-index ≡ len_of c.args.polygons.now c.args.k = omega (arith, c.requires, c.first_of-first.ensures, c.len_of.ensures) in
    c.loop-owner.invariant ∙ ap (all_to _) e

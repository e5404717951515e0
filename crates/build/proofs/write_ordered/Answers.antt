-- `write_ordered`: one point a turn, at the place of the polygon. Assumes nothing.
use mathlib.Core.Path.{◌≡◌, ap, ◌∙◌}
use Prim.Native.Nat.{◌+◌, ◌*◌}
use native.Mathlib.Omega.{arith}
use lib.Seq.{take_all, sets}
use lib.Ieee.{nan}
use lib.ListN.{length}
use Rattle.geom.specs.declared.Vec2.{Vec2}
use Rattle.build.specs.Stored.{ordered_at}
use Rattle.build.proofs.Writing.{next_point}
use Rattle.build.proofs.Orders.{length_ordered}
use Rattle.build.proofs.write_ordered.Goals as goal

pub loop-i-preserved : goal.loop-i-preserved
loop-i-preserved c =
    let h : length (ordered_at c.args.reversed c.args.given.now c.args.first c.args.len) ≡ 2 * c.args.len = length_ordered c.args.given.now c.args.first c.args.len c.requires c.args.reversed in
    next_point c.args.points.now (2 * c.args.first) (ordered_at c.args.reversed c.args.given.now c.args.first c.args.len) c.loop-i.i (2 * (c.args.first + c.loop-i.i)) nan c.loop-i.points _ _ _ _ c.loop-i.invariant c.put.ensures c.put-in-loop-i.ensures (omega arith) (ap (λ (v : Vec2). v.x) c.ordered_point-p.ensures) (ap (λ (v : Vec2). v.y) c.ordered_point-p.ensures) (omega arith)

pub returns : goal.returns
returns c =
    let h : length (ordered_at c.args.reversed c.args.given.now c.args.first c.args.len) ≡ 2 * c.args.len = length_ordered c.args.given.now c.args.first c.args.len c.requires c.args.reversed in
    c.loop-i.invariant ∙ ap (sets c.args.points.now (2 * c.args.first)) (take_all (2 * c.loop-i.i) (ordered_at c.args.reversed c.args.given.now c.args.first c.args.len) (omega arith))

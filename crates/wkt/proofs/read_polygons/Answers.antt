-- `wkt::read_polygons` meets its contract. Assumes nothing.
use Rattle.std.proofs.Common.{length, drop, arith, rules as kit_rules}
use Rattle.wkt.proofs.Lined.{lined_more, lined_bad, lined_done, all_wrong, Found, found, lost, stored_of}
use Rattle.wkt.specs.Rules.{rules}
use Rattle.wkt.specs.Grammar.{polygon, polygons}
use Rattle.wkt.proofs.read_polygons.Goals as goal

pub returns-in_err-ring : goal.returns-in_err-ring
returns-in_err-ring c =
    let it = all_wrong (polygons (rules c.args.whole c.args.part) (length (drop c.args.at c.args.s.now)) (drop c.args.at c.args.s.now)) c.args.pts.now c.args.lens.now _ _ (lined_bad _ _ _ _ _ _ _ _ _ _ c.loop-i.invariant.0 (omega arith) (lost _ c.in_err-ring.ensures.seen)) in
    record { seen = rw c.from_residual.ensures it.0; stored = it.1 }

pub loop-i-preserved : goal.loop-i-preserved
loop-i-preserved c =
    let s = c.args.s.now in
    let ring = c.in_ok-ring.ring in
    let q : Found (polygon (rules c.args.whole c.args.part) (drop c.loop-i.i c.args.s.now)) c.in_ok-ring.ring.points (drop c.in_ok-ring.ring.next c.args.s.now) = found _ _ _ c.in_ok-ring.ensures.seen in
    let on = c.in_ok-ring.ensures.on in
    let st = stored_of (polygon (rules c.args.whole c.args.part) (drop c.loop-i.i s)) q.ps (drop ring.next s) c.loop-i.pts c.loop-i.k c.read_polygon.new.pts q.is c.in_ok-ring.ensures.stored in (
      lined_more _ _ _ _ _ _ _ _ _ _ c.loop-i.invariant.0 q.ps ring.next ring.points c.read_polygon.new.pts _ (omega arith) q.is q.count st c.put.ensures on.0 on.1,
      search kit_rules,
      search kit_rules,
    )

pub returns : goal.returns
returns c = let it = lined_done _ _ _ _ _ _ _ _ _ _ c.loop-i.invariant.0 (omega arith) in record { seen = it.0; stored = it.1 }

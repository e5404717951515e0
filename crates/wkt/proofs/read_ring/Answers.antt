-- `wkt::read_ring` meets its contract. Assumes nothing.
use Rattle.std.proofs.Common.{drop, sym, refl, ◌∙◌, arith}
use Rattle.wkt.proofs.Rings.{post_wrong, post_read, taken_start, taken_more, taken_cut, taken_done, taken_open, ring_none}
use Rattle.wkt.specs.Rules.{rules}
use Rattle.wkt.specs.Grammar.{ring}
use Rattle.wkt.proofs.read_ring.Goals as goal

pub returns-in_err-first : goal.returns-in_err-first
returns-in_err-first c =
    let it = post_wrong (ring (rules c.args.whole c.args.part) (drop c.args.at c.args.s.now)) c.args.pts.now c.args.k _ (ring_none _ _ (sym c.in_err-first.ensures.seen)) in
    record { seen = rw c.from_residual.ensures it.0; on = rw c.from_residual.ensures tt; stored = it.1 }

pub loop-pts-init : goal.loop-pts-init
loop-pts-init c = (taken_start _ _ _ _ _ _ _ _ (sym c.in_ok-first.ensures.seen) c.in_ok-first.ensures.on.0 c.in_ok-first.ensures.on.1, refl)

pub returns-in_err-last : goal.returns-in_err-last
returns-in_err-last c =
    let it = post_wrong (ring (rules c.args.whole c.args.part) (drop c.args.at c.args.s.now)) c.args.pts.now c.args.k _ (taken_cut _ _ _ _ _ _ _ _ _ _ _ _ c.loop-pts.invariant.0 (sym c.loop-pts-test.ensures) (sym c.in_err-last.ensures.seen)) in
    record { seen = rw c.from_residual-in_err-last.ensures it.0; on = rw c.from_residual-in_err-last.ensures tt; stored = it.1 }

pub loop-pts-preserved : goal.loop-pts-preserved
loop-pts-preserved c = (
  taken_more _ _ _ _ _ _ _ _ _ _ _ _ c.loop-pts.invariant.0 _ _ _ _ (sym c.loop-pts-test.ensures) (sym c.in_ok-last.ensures.seen) c.in_ok-last.ensures.on.0 c.in_ok-last.ensures.on.1 c.put_point.ensures,
  c.put_point.auto.pts ∙ c.loop-pts.invariant.1,
)

pub returns-then-closes : goal.returns-then-closes
returns-then-closes c =
    let r = c.loop-pts.invariant.0 in
    let d = r.moved in
    let p = post_read (ring (rules c.args.whole c.args.part) (drop c.args.at c.args.s.now)) _ _ _ c.args.pts.now c.args.k _ (taken_done _ _ _ _ _ _ _ _ _ _ _ _ r (sym c.loop-pts-test.ensures) (sym c.if-closes.ensures)) r.count r.kept_in in
    record { seen = p.0; on = (omega arith, r.within); stored = p.1 }

pub returns : goal.returns
returns c =
    let it = post_wrong (ring (rules c.args.whole c.args.part) (drop c.args.at c.args.s.now)) c.args.pts.now c.args.k _ (taken_open _ _ _ _ _ _ _ _ _ _ _ _ c.loop-pts.invariant.0 (sym c.loop-pts-test.ensures) (sym c.if-closes.ensures)) in
    record { seen = it.0; on = tt; stored = it.1 }

-- `wkt::read_ring_line` meets its contract. Assumes nothing.
use Rattle.std.proofs.Common.{ℕ, List, drop, ap, ◌∙◌, arith}
use Rattle.wkt.proofs.Lined.{Found, found, lost, stored_of, line_none, line_by, line_end}
use Rattle.wkt.proofs.Prefix.{behind}
use Rattle.wkt.proofs.Rings.{post_wrong, post_read}
use Rattle.wkt.specs.Rules.{rules}
use Rattle.wkt.specs.Grammar.{ring, ring_line}
use Rattle.wkt.specs.Parse.{got, wrong}
use Rattle.wkt.proofs.read_ring_line.Goals as goal

pub returns-in_err-start : goal.returns-in_err-start
returns-in_err-start c =
    let it = post_wrong (ring_line (rules c.args.whole c.args.part) (drop c.args.at c.args.s.now)) c.args.pts.now c.args.k _ (line_none (rules c.args.whole c.args.part) (drop c.args.at c.args.s.now) c.in_err-start.ensures) in
    record { seen = rw c.from_residual.ensures it.0; on = rw c.from_residual.ensures tt; stored = it.1 }

pub returns-in_err-ring : goal.returns-in_err-ring
returns-in_err-ring c =
    let how = rules c.args.whole c.args.part in
    let start = c.in_ok-start.ensures in
    let it = post_wrong (ring_line (rules c.args.whole c.args.part) (drop c.args.at c.args.s.now)) c.args.pts.now c.args.k _ (line_by how (drop c.args.at c.args.s.now) wrong start.0 (ap (ring how) (behind c.args.s.now c.args.at 10 _ start.1) ∙ lost _ c.in_err-ring.ensures.seen)) in
    record { seen = rw c.from_residual-in_err-ring.ensures it.0; on = rw c.from_residual-in_err-ring.ensures tt; stored = it.1 }

pub returns-in_err-next : goal.returns-in_err-next
returns-in_err-next c =
    let how = rules c.args.whole c.args.part in
    let s = c.args.s.now in
    let start = c.in_ok-start.ensures in
    let q : Found (ring (rules c.args.whole c.args.part) (drop c.in_ok-start.start c.args.s.now)) c.in_ok-ring.ring.points (drop c.in_ok-ring.ring.next c.args.s.now) = found _ _ _ c.in_ok-ring.ensures.seen in
    let it = post_wrong (ring_line (rules c.args.whole c.args.part) (drop c.args.at c.args.s.now)) c.args.pts.now c.args.k _ (line_end how (drop c.args.at s) _ q.ps _ start.0 (ap (ring how) (behind s c.args.at 10 _ start.1) ∙ q.is) c.in_err-next.ensures) in
    record { seen = rw c.from_residual-in_err-next.ensures it.0; on = rw c.from_residual-in_err-next.ensures tt; stored = it.1 }

pub returns : goal.returns
returns c =
    let how = rules c.args.whole c.args.part in
    let s = c.args.s.now in
    let start = c.in_ok-start.ensures in
    let next = c.in_ok-next.ensures in
    let on = c.in_ok-ring.ensures.on in
    let q : Found (ring (rules c.args.whole c.args.part) (drop c.in_ok-start.start c.args.s.now)) c.in_ok-ring.ring.points (drop c.in_ok-ring.ring.next c.args.s.now) = found _ _ _ c.in_ok-ring.ensures.seen in
    let d = line_end how (drop c.args.at s) _ q.ps _ start.0 (ap (ring how) (behind s c.args.at 10 _ start.1) ∙ q.is) next.0 ∙ ap (λ (t : List ℕ). got q.ps t) (behind s c.in_ok-ring.ring.next 3 _ next.1) in
    let st = stored_of (ring how (drop c.in_ok-start.start s)) q.ps (drop c.in_ok-ring.ring.next s) c.args.pts.now c.args.k _ q.is c.in_ok-ring.ensures.stored in
    let p = post_read (ring_line (rules c.args.whole c.args.part) (drop c.args.at c.args.s.now)) q.ps _ _ c.args.pts.now c.args.k _ d q.count st in
    record { seen = p.0; on = (omega arith, next.2); stored = p.1 }

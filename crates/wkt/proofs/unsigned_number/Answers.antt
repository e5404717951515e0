-- `wkt::unsigned_number` meets its contract. Assumes nothing.
use Rattle.std.proofs.Common.{◌-◌, ◌≤◌, drop, sym, ap, ◌∙◌, arith, drop-drop}
use lib.Ieee.{Float}
use Rattle.wkt.specs.Parse.{got}
use Rattle.wkt.specs.Number.{digits_of}
use Rattle.wkt.proofs.Numerals.{ten_le, dec_fits, unsigned_none, unsigned_whole, unsigned_cut, unsigned_part}
use Rattle.wkt.proofs.unsigned_number.Goals as goal

pub returns-in_err-n-clause-seen : goal.returns-in_err-n-clause-seen
returns-in_err-n-clause-seen c = rw c.from_residual.ensures (unsigned_none _ _ _ _ (sym c.in_err-n.ensures.seen))

pub decimal_of-requires : goal.decimal_of-requires
decimal_of-requires c =
    let p = c.in_ok-n.ensures.on in
    let h : c.in_ok-n.n.next - c.args.at ≤ 15 = omega (arith, p.2) in
    (omega arith, omega (arith, p.3, ten_le (c.in_ok-n.n.next - c.args.at) 15 h))

pub returns-then-not-is_at-clause-seen : goal.returns-then-not-is_at-clause-seen
returns-then-not-is_at-clause-seen c =
    ap (λ (x : Float). got x (drop c.in_ok-n.n.next c.args.s.now)) c.decimal_of.ensures ∙ unsigned_whole _ _ _ _ _ _ _ (sym c.in_ok-n.ensures.seen) (sym c.if-not-is_at.ensures)

pub returns-in_err-v-clause-seen : goal.returns-in_err-v-clause-seen
returns-in_err-v-clause-seen c =
    rw c.from_residual-in_err-v.ensures (unsigned_cut _ _ _ _ _ _ _ (sym c.in_ok-n.ensures.seen) (sym c.if-not-is_at.ensures) (ap (digits_of _) (drop-drop 1 c.in_ok-n.n.next c.args.s.now) ∙ sym c.in_err-v.ensures.seen))

pub decimal_of-requires-2 : goal.decimal_of-requires-2
decimal_of-requires-2 c = let p = c.in_ok-n.ensures.on in let q = c.in_ok-v.ensures.on in (omega arith, dec_fits _ _ _ _ _ _ p.3 q.3 p.2 q.2 c.requires)

pub returns-clause-seen : goal.returns-clause-seen
returns-clause-seen c =
    ap (λ (x : Float). got x (drop c.in_ok-v.v.next c.args.s.now)) c.decimal_of-2.ensures
    ∙ unsigned_part _ _ _ _ _ _ _ (sym c.in_ok-n.ensures.seen) _ _ _ (sym c.if-not-is_at.ensures) (ap (digits_of _) (drop-drop 1 c.in_ok-n.n.next c.args.s.now) ∙ sym c.in_ok-v.ensures.seen)

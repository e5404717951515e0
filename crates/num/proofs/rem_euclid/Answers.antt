-- `num::rem_euclid` meets its contract. Assumes nothing.
use Rattle.std.proofs.Common.{Bool, cond, sym, ap, ◌∙◌}
use lib.Ieee.{Float, of_bits, binary64, add, lt}
use Rattle.num.proofs.Whole.{yes}
use Rattle.num.proofs.FloorLaws.{nought}
use Rattle.num.proofs.RemLaws.{rem_is}
use Rattle.num.specs.Num.{abs_of}
use Rattle.num.proofs.rem_euclid.Goals as goal

pub returns-then-r : goal.returns-then-r
unfolding of_bits
returns-then-r c =
    let r = c.rem-r.result in
    ap (λ (z : Float). add binary64 r z) c.abs.ensures ∙ sym (ap (λ (t : Bool). cond t (add binary64 r (abs_of c.args.y)) r) c.if-r.true)
    ∙ ap (λ (z : Float). cond (lt z nought) (add binary64 z (abs_of c.args.y)) z) c.rem-r.ensures ∙ rem_is c.args.x c.args.y (yes c.well_formed.0.1) (yes c.well_formed.1.0.1)

pub returns : goal.returns
unfolding of_bits
returns c =
    let r = c.rem-r.result in
    sym (ap (λ (t : Bool). cond t (add binary64 r (abs_of c.args.y)) r) c.if-r.false)
    ∙ ap (λ (z : Float). cond (lt z nought) (add binary64 z (abs_of c.args.y)) z) c.rem-r.ensures ∙ rem_is c.args.x c.args.y (yes c.well_formed.0.1) (yes c.well_formed.1.0.1)

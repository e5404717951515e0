-- `num::sqrt` meets its contract. Assumes nothing.
use Rattle.std.proofs.Common.{T, sym, ◌∙◌, arith}
use lib.Ieee.{of_bits, div, binary64, fits}
use Rattle.num.proofs.Whole.{yes}
use Rattle.num.proofs.SqrtLaws.{number, low_root, high_root, pattern_ok, endless, zero_root, no_root}
use Rattle.num.proofs.sqrt.Goals as goal

pub float_to_bits-b : goal.float_to_bits-b
unfolding of_bits div
float_to_bits-b c = number c.args.x c.if-x.true

pub root_bits-requires : goal.root_bits-requires
unfolding of_bits div
root_bits-requires c = ((low_root c.args.x ((let it : T (fits binary64 c.args.x) = yes c.well_formed.0.1 in it)) c.if-x.true c.if-x-2.true c.if-f-eq0.true).0, omega arith, omega arith)

pub float_from_bits-result : goal.float_from_bits-result
float_from_bits-result c = (pattern_ok _ _ _ c.root_bits.ensures).0

pub returns-then-f-eq0 : goal.returns-then-f-eq0
unfolding of_bits div
returns-then-f-eq0 c = (pattern_ok _ _ _ c.root_bits.ensures).1 ∙ sym (low_root c.args.x ((let it : T (fits binary64 c.args.x) = yes c.well_formed.0.1 in it)) c.if-x.true c.if-x-2.true c.if-f-eq0.true).1

pub root_bits-requires-then-x-2 : goal.root_bits-requires-then-x-2
unfolding of_bits div
root_bits-requires-then-x-2 c = (omega arith, omega arith, omega (arith, (high_root c.args.x ((let it : T (fits binary64 c.args.x) = yes c.well_formed.0.1 in it)) c.if-x.true c.if-x-2.true c.if-f-eq0.false).0))

pub float_from_bits-result-then-x-2 : goal.float_from_bits-result-then-x-2
float_from_bits-result-then-x-2 c = (pattern_ok _ _ _ c.root_bits-then-x-2.ensures).0

pub returns-then-x-2 : goal.returns-then-x-2
unfolding of_bits div
returns-then-x-2 c = (pattern_ok _ _ _ c.root_bits-then-x-2.ensures).1 ∙ sym (high_root c.args.x ((let it : T (fits binary64 c.args.x) = yes c.well_formed.0.1 in it)) c.if-x.true c.if-x-2.true c.if-f-eq0.false).1

pub returns-then-x : goal.returns-then-x
unfolding of_bits div
returns-then-x c = endless c.args.x c.if-x.true c.if-x-2.false

pub returns-then-x-3 : goal.returns-then-x-3
unfolding of_bits div
returns-then-x-3 c = zero_root c.args.x c.if-x-3.true

pub returns : goal.returns
unfolding of_bits div
returns c = no_root c.args.x c.if-x.false c.if-x-3.false

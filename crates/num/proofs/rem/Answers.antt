-- `num::rem` meets its contract. Assumes nothing.
use Rattle.std.proofs.Common.{arith}
use lib.Ieee.{of_bits, div}
use Rattle.num.proofs.Whole.{yes}
use Rattle.num.proofs.RemBits.{no_x, no_y, endless_y, zero_y, way_less, way_positive, way_negative}
use Rattle.num.proofs.rem.Goals as goal

pub returns-then-bx-ge9218868437227405312 : goal.returns-then-bx-ge9218868437227405312
unfolding of_bits div
returns-then-bx-ge9218868437227405312 c = no_x c.args.x c.args.y c.to_bits-b.result (yes c.well_formed.0.1) c.to_bits-b.ensures c.if-bx-ge9218868437227405312.true

pub returns-then-by-gt9218868437227405312 : goal.returns-then-by-gt9218868437227405312
unfolding of_bits div
returns-then-by-gt9218868437227405312 c = no_y c.args.x c.args.y c.to_bits-by.result (yes c.well_formed.1.0.1) c.to_bits-by.ensures c.if-by-gt9218868437227405312.true

pub returns-then-by-eq9218868437227405312 : goal.returns-then-by-eq9218868437227405312
returns-then-by-eq9218868437227405312 c = endless_y c.args.x c.args.y c.to_bits-b.result c.to_bits-by.result (yes c.well_formed.1.0.1) c.to_bits-b.ensures c.to_bits-by.ensures (omega arith) c.if-by-eq9218868437227405312.true

pub returns-then-by-eq0 : goal.returns-then-by-eq0
unfolding of_bits div
returns-then-by-eq0 c = zero_y c.args.x c.args.y c.to_bits-by.result (yes c.well_formed.1.0.1) c.to_bits-by.ensures c.if-by-eq0.true

pub returns-then-kx-ky : goal.returns-then-kx-ky
returns-then-kx-ky c = way_less c.args.x c.args.y c.to_bits-b.result c.to_bits-by.result (yes c.well_formed.0.1) (yes c.well_formed.1.0.1) c.to_bits-b.ensures c.to_bits-by.ensures (omega arith) (omega arith) (omega arith) (omega arith)

pub returns-then-b-ge9223372036854775808 : goal.returns-then-b-ge9223372036854775808
returns-then-b-ge9223372036854775808 c =
    way_negative c.args.x c.args.y c.to_bits-b.result c.to_bits-by.result (yes c.well_formed.0.1) (yes c.well_formed.1.0.1) c.to_bits-b.ensures c.to_bits-by.ensures (omega arith) (omega arith) (omega arith) c.from_bits-v.result c.pattern.result c.long_remainder-r.result c.exponent-kx.result c.exponent-ky.result c.if-kx-ky.false c.exponent-kx.ensures c.exponent-ky.ensures c.long_remainder-r.ensures c.pattern.ensures c.from_bits-v.ensures c.if-b-ge9223372036854775808.true

pub returns : goal.returns
returns c =
    way_positive c.args.x c.args.y c.to_bits-b.result c.to_bits-by.result (yes c.well_formed.0.1) (yes c.well_formed.1.0.1) c.to_bits-b.ensures c.to_bits-by.ensures (omega arith) (omega arith) (omega arith) c.from_bits-v.result c.pattern.result c.long_remainder-r.result c.exponent-kx.result c.exponent-ky.result c.if-kx-ky.false c.exponent-kx.ensures c.exponent-ky.ensures c.long_remainder-r.ensures c.pattern.ensures c.from_bits-v.ensures c.if-b-ge9223372036854775808.false

-- `wkt_print::scaled_up` meets its contract. Assumes nothing.
use Rattle.num.proofs.Whole.{yes}
use Prim.Native.Nat.{◌/◌, ◌%◌}
use mathlib.Core.Path.{ap, ◌∙◌}
use Prim.Native.Nat.{ℕ, ◌+◌, ◌-◌, ◌*◌, ◌^◌}
use native.Mathlib.Omega.{arith}
use Rattle.wkt_print.proofs.Bits.{by_low, by_high, scaled_large, scaled_zero, ten_small}
use lib.Ieee.{of_bits, to_bits, binary64}
use lib.Ieee.Nearest.{closest}
use native.Mathlib.Nat.{mod-lt, zero-lt-suc}
use Rattle.wkt_print.proofs.scaled_up.Goals as goal
use Rattle.wkt_print.proofs.scaled_up.Goals.{else-x-via-then-x+else-x-2, else-x-via-else-x}

pub rounded-requires : goal.rounded-requires
rounded-requires c = (omega (arith, mod-lt (to_bits binary64 c.args.x) (zero-lt-suc 4503599627370495)), rw c.ten_to-c.ensures (ten_small c.args.places c.requires.0), omega arith)

pub returns-then-f-eq0 : goal.returns-then-f-eq0
unfolding of_bits
returns-then-f-eq0 c = c.rounded.ensures ∙ ap (λ (y : ℕ). closest (to_bits binary64 c.args.x % 4503599627370496 * y) (2 ^ 1074)) c.ten_to-c.ensures ∙ by_low c.args.places c.args.x (yes c.well_formed.0.1) c.if-x.true c.if-x-2.true c.if-f-eq0.true

pub overflow_sub-f : goal.overflow_sub-f
unfolding of_bits
overflow_sub-f c = omega (arith, (by_high c.args.places c.args.x (yes c.well_formed.0.1) c.if-x.true c.if-x-2.true c.if-f-eq0.false).0)

pub rounded-requires-then-x-2 : goal.rounded-requires-then-x-2
unfolding of_bits
rounded-requires-then-x-2 c = (omega (arith, mod-lt (to_bits binary64 c.args.x) (zero-lt-suc 4503599627370495)), rw c.ten_to-c.ensures (ten_small c.args.places c.requires.0), omega (arith, (by_high c.args.places c.args.x (yes c.well_formed.0.1) c.if-x.true c.if-x-2.true c.if-f-eq0.false).0))

pub returns-then-x-2 : goal.returns-then-x-2
unfolding of_bits
returns-then-x-2 c = c.rounded-then-x-2.ensures ∙ ap (λ (y : ℕ). closest ((to_bits binary64 c.args.x % 4503599627370496 + 4503599627370496) * y) (2 ^ (1075 - to_bits binary64 c.args.x / 4503599627370496))) c.ten_to-c.ensures ∙ (by_high c.args.places c.args.x (yes c.well_formed.0.1) c.if-x.true c.if-x-2.true c.if-f-eq0.false).1

pub returns : goal.returns
unfolding of_bits
returns c = elim c.else-x.branch [ else-x-via-then-x+else-x-2 w ↦ scaled_large _ _ w.if-x.true w.if-x-2.false | else-x-via-else-x w ↦ scaled_zero _ _ w.if-x.false c.requires.1 ]

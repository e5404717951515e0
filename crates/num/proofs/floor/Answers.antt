-- `num::floor` meets its contract. Assumes nothing.
use Rattle.std.proofs.Common.{ℕ, ◌+◌, T, pos, ap, ◌∙◌}
use Rattle.num.proofs.Whole.{yes}
use lib.Ieee.{of_bits, neg, of_int, binary64, fits}
use Rattle.num.proofs.FloorLaws.{floor_pos, floor_up, floor_down, floor_zero, floor_neg_whole, floor_neg_part, in_range, in_range_neg, one_more_fits}
use Rattle.num.proofs.floor.Goals as goal

pub truncating_f64_to_u64-requires : goal.truncating_f64_to_u64-requires
unfolding of_bits
truncating_f64_to_u64-requires c = let it = in_range _ c.if-x.true c.if-x-2.true in record { lower_bound = it.0; upper_bound = it.1 }

pub returns-then-x-2 : goal.returns-then-x-2
unfolding of_bits
returns-then-x-2 c = c.nearest_u64_to_f64.ensures ∙ ap (λ (n : ℕ). of_int binary64 (pos n)) c.truncating_f64_to_u64.ensures ∙ floor_pos c.args.x c.if-x.true c.if-x-2.true

pub returns-then-x : goal.returns-then-x
unfolding of_bits
returns-then-x c = floor_up _ ((let it : T (fits binary64 c.args.x) = yes c.well_formed.0.1 in it)) c.if-x.true c.if-x-2.false

pub truncating_f64_to_u64-n-requires : goal.truncating_f64_to_u64-n-requires
unfolding of_bits
truncating_f64_to_u64-n-requires c = let it = in_range_neg _ c.if-x-3.true c.if-x-4.true in record { lower_bound = it.0; upper_bound = it.1 }

pub returns-then-t-x : goal.returns-then-t-x
unfolding of_bits
returns-then-t-x c =
    floor_neg_whole c.args.x ((let it : T (fits binary64 c.args.x) = yes c.well_formed.0.1 in it)) c.if-x-3.true c.if-x-4.true
    (rw (← c.truncating_f64_to_u64-n.ensures, ← c.nearest_u64_to_f64-t.ensures) c.if-t-x.true)

pub overflow_add-n : goal.overflow_add-n
unfolding of_bits
overflow_add-n c = record { fits = rw c.truncating_f64_to_u64-n.ensures (one_more_fits c.args.x c.if-x-3.true c.if-x-4.true) }

pub returns-then-x-4 : goal.returns-then-x-4
unfolding of_bits
returns-then-x-4 c =
    ap neg c.nearest_u64_to_f64-then-x-4.ensures
    ∙ ap (λ (n : ℕ). neg (of_int binary64 (pos (n + 1)))) c.truncating_f64_to_u64-n.ensures
    ∙ floor_neg_part c.args.x c.if-x-3.true c.if-x-4.true
    (rw (← c.truncating_f64_to_u64-n.ensures, ← c.nearest_u64_to_f64-t.ensures) c.if-t-x.false)

pub returns-then-x-3 : goal.returns-then-x-3
unfolding of_bits
returns-then-x-3 c = floor_down _ ((let it : T (fits binary64 c.args.x) = yes c.well_formed.0.1 in it)) c.if-x-3.true c.if-x-4.false

pub returns : goal.returns
unfolding of_bits
returns c = floor_zero _ ((let it : T (fits binary64 c.args.x) = yes c.well_formed.0.1 in it)) c.if-x.false c.if-x-3.false

-- `wkt_print::print_number` meets its contract. Assumes nothing.
use Rattle.wkt_print.proofs.Printing.{say, then, byte, shown_is}
use Rattle.wkt_print.proofs.Lengths.{minus_few, whole_few, whole_low}
use Rattle.wkt_print.proofs.Widths.{ten_pos}
use native.Mathlib.Omega.{arith}
use native.Mathlib.Nat.{mod-lt}
use Prim.Native.Nat.{ℕ, ◌/◌, ◌%◌, ◌<◌}
use mathlib.Core.Path.{refl, subst}
use Rattle.wkt_print.proofs.print_number.Goals as goal

pub nonzero_div-q : goal.nonzero_div-q
nonzero_div-q c = let h : 0 < c.ten_to-p.result = rw c.ten_to-p.ensures (ten_pos c.args.places) in omega arith

pub put_whole-j-requires : goal.put_whole-j-requires
put_whole-j-requires c = let q = whole_low c.args.places c.args.x c.scaled-q.result c.ten_to-p.result c.scaled-q.ensures c.ten_to-p.ensures in (omega arith, omega (arith, minus_few c.is_minus.result, c.requires.1))

pub overflow_add-j : goal.overflow_add-j
overflow_add-j c = let q = whole_low c.args.places c.args.x c.scaled-q.result c.ten_to-p.result c.scaled-q.ensures c.ten_to-p.ensures in omega (arith, minus_few c.is_minus.result, whole_few 8 (c.scaled-q.result / c.ten_to-p.result) (omega arith) (omega arith), c.requires.1)

pub nonzero_rem-q : goal.nonzero_rem-q
nonzero_rem-q c = let h : 0 < c.ten_to-p.result = rw c.ten_to-p.ensures (ten_pos c.args.places) in omega arith

pub put_digits-requires : goal.put_digits-requires
put_digits-requires c = let q = whole_low c.args.places c.args.x c.scaled-q.result c.ten_to-p.result c.scaled-q.ensures c.ten_to-p.ensures in (omega (arith, c.requires.0), subst (λ (p : ℕ). c.scaled-q.result % c.ten_to-p.result < p) c.ten_to-p.ensures (mod-lt c.scaled-q.result (rw c.ten_to-p.ensures (ten_pos c.args.places))), omega (arith, minus_few c.is_minus.result, whole_few 8 (c.scaled-q.result / c.ten_to-p.result) (omega arith) (omega arith), c.requires.1))

pub returns : goal.returns
returns c =
    say (shown_is c.args.places c.args.x c.scaled-q.result c.ten_to-p.result c.is_minus.result c.scaled-q.ensures c.ten_to-p.ensures c.is_minus.ensures)
    (then c.put_minus-i.ensures (then c.put_whole-j.ensures (then (byte _ c.put_whole-j.result 46 _ _ c.put.ensures refl) c.put_digits.ensures)))

-- `wkt::decimal_of` meets its contract. Assumes nothing.
use Rattle.wkt.specs.Number.{decimal}
use Rattle.std.proofs.Common.{◌≡◌, ℕ, ◌+◌, ◌*◌, Bool, sym, ap, ◌∙◌, subst, arith}
use Rattle.wkt.proofs.Floats.{quotient, read_zero, read_minus, read_plus}
use lib.Ieee.{neg}
use Rattle.wkt.proofs.decimal_of.Goals as goal

pub overflow_mul-m : goal.overflow_mul-m
overflow_mul-m c = record { fits = rw c.ten_to-p.ensures (omega arith) }

pub overflow_add-m : goal.overflow_add-m
overflow_add-m c = record { fits = rw c.ten_to-p.ensures (omega arith) }

pub returns-then-m-eq0 : goal.returns-then-m-eq0
returns-then-m-eq0 c = rw (c.nearest_u64_to_f64.ensures, c.nearest_u64_to_f64-2.ensures) ((quotient _ _ _ _ c.ten_to-p.ensures c.requires.0 c.requires.1) ∙ read_zero _ _ _ (subst (λ (p : ℕ). c.args.n * p + c.args.v ≡ 0) c.ten_to-p.ensures c.if-m-eq0.true))

pub returns-then-minus : goal.returns-then-minus
returns-then-minus c = rw (c.nearest_u64_to_f64.ensures, c.nearest_u64_to_f64-2.ensures) (ap neg (quotient _ _ _ _ c.ten_to-p.ensures c.requires.0 c.requires.1) ∙ read_minus _ _ (subst (λ (p : ℕ). c.args.n * p + c.args.v ≡ 0 → ⊥) c.ten_to-p.ensures c.if-m-eq0.false) ∙ ap (λ (b : Bool). decimal b c.args.n c.args.v c.args.k) (sym c.if-minus.true))

pub returns : goal.returns
returns c = rw (c.nearest_u64_to_f64.ensures, c.nearest_u64_to_f64-2.ensures) ((quotient _ _ _ _ c.ten_to-p.ensures c.requires.0 c.requires.1) ∙ read_plus _ _ ∙ ap (λ (b : Bool). decimal b c.args.n c.args.v c.args.k) (sym c.if-minus.false))

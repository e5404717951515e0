-- `wkt_print::width_of` meets its contract. Assumes nothing.
use mathlib.Core.Path.{refl, sym, ap, ◌∙◌}
use Prim.Native.Nat.{ℕ, ◌<◌, ◌*◌, ◌^◌}
use Rattle.wkt_print.proofs.Widths.{width_few, width_next, width_end}
use native.Mathlib.Nat.{pow-suc}
use native.Mathlib.Numerals.{add-one}
use native.Mathlib.Omega.{arith}
use Rattle.wkt_print.proofs.width_of.Goals as goal

pub loop-p-init : goal.loop-p-init
loop-p-init c = (refl, omega arith, omega arith, refl)

pub overflow_mul-p : goal.overflow_mul-p
overflow_mul-p c = omega (arith, c.requires)

pub overflow_add-w : goal.overflow_add-w
overflow_add-w c = omega (arith, (width_few c.loop-p.w c.args.n (rw (sym c.loop-p.invariant.0) (omega arith)) c.requires))

pub loop-p-smaller : goal.loop-p-smaller
loop-p-smaller c = omega (arith, (width_few c.loop-p.w c.args.n (rw (sym c.loop-p.invariant.0) (omega arith)) c.requires))

pub loop-p-preserved : goal.loop-p-preserved
loop-p-preserved c = (ap (λ (x : ℕ). x * 10) c.loop-p.invariant.0 ∙ sym (ap (λ (x : ℕ). 10 ^ x) (add-one c.loop-p.w) ∙ pow-suc 10 c.loop-p.w), omega arith, omega (arith, (width_few c.loop-p.w c.args.n (rw (sym c.loop-p.invariant.0) (omega arith)) c.requires)), c.loop-p.invariant.3 ∙ width_next c.loop-p.w c.args.n (width_few c.loop-p.w c.args.n (rw (sym c.loop-p.invariant.0) (omega arith)) c.requires) (rw (sym c.loop-p.invariant.0) (omega arith)))

pub returns : goal.returns
returns c = let g : c.args.n < 10 ^ c.loop-p.w = (rw (sym c.loop-p.invariant.0) (omega arith)) in (sym (c.loop-p.invariant.3 ∙ width_end c.loop-p.w c.args.n c.loop-p.invariant.2 g), c.loop-p.invariant.2, g)

-- `wkt_print::width_of` meets its contract. Assumes nothing.
use mathlib.Core.Path.{◌≡◌}
use Prim.Native.Nat.{◌≤◌, ◌-◌, ◌^◌}
use Rattle.wkt_print.specs.Decimal.{width, width_from}
use Rattle.wkt_print.proofs.width_of.Given as goal

abbrev pub invariant-loop-p : goal.invariant-loop-p
invariant-loop-p l = (l.p ≡ 10 ^ l.w) × (1 ≤ l.w) × (l.w ≤ 10) × (width l.n ≡ width_from (11 - l.w) l.w l.n)

abbrev pub decreases-loop-p : goal.decreases-loop-p
decreases-loop-p l = 11 - l.w

-- `site::never_fall` meets its contract. Assumes nothing.
use Prim.Native.Nat.{◌≤◌, ◌-◌}
use mathlib.Core.Path.{◌≡◌}
use lib.ListN.{length, drop}
use Rattle.std.specs.Slice.Iter.{windows_size, windows_rest}
use Rattle.site.specs.Soundness.{never_fall}
use Rattle.site.proofs.never_fall.Given as goal

abbrev pub invariant-loop-pair : goal.invariant-loop-pair
invariant-loop-pair l =
    let rest = windows_rest l.pair-iterator in
    let c = length l.starts - length rest in
    (windows_size l.pair-iterator ≡ 2) × (length rest ≤ length l.starts) × (c ≤ length l.starts - 1) × (rest ≡ drop c l.starts) × (l.ok ≡ never_fall c l.starts)

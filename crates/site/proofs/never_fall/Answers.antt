-- `site::never_fall` meets its contract. Assumes nothing.
use mathlib.Core.Path.{◌≡◌, ap}
use Prim.Native.Nat.{◌+◌, ◌-◌}
use native.Mathlib.Omega.{arith}
use borrow.Author.Rules.{rules}
use lib.ListN.{length}
use Rattle.std.specs.Slice.Iter.{windows_size, windows_rest}
use Rattle.std.proofs.lemmas.Iterator.{window_more}
use Rattle.site.specs.Soundness.{never_fall}
use Rattle.site.proofs.Falling.{fall_step}
use Rattle.site.proofs.never_fall.Goals as goal

pub loop-pair-init : goal.loop-pair-init
unfolding never_fall
loop-pair-init c =
    let size : windows_size c.into_iter-pair-iterator.result ≡ 2 = search rules in
    let rest : windows_rest c.into_iter-pair-iterator.result ≡ c.args.starts.now = search rules in
    let none : length c.args.starts.now - length (windows_rest c.into_iter-pair-iterator.result) ≡ 0 = omega (arith, ap length rest) in
    (size, omega (arith, ap length rest), omega arith, rw none rest, rw none)

pub loop-pair-preserved : goal.loop-pair-preserved
loop-pair-preserved c =
    let h = window_more c.args.starts.now c.loop-pair.pair-iterator c.next.new.self _ _ c.in-Some.is c.next.ensures.steps (search rules) (search rules) c.loop-pair.invariant.3 in
    let n : length c.args.starts.now - length (windows_rest c.next.new.self) ≡ length c.args.starts.now - length (windows_rest c.loop-pair.pair-iterator) + 1 = omega arith in
    (search rules, omega arith, omega arith, h.1, fall_step c.args.starts.now c.in-Some.pair.now _ _ c.loop-pair.ok n (h.3 0 0 (search rules)) (h.3 1 0 (search rules)) c.loop-pair.invariant.4)

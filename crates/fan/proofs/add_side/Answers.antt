-- `fan::add_side`: what one polygon edge gives is added. Assumes nothing.
use Rattle.fan.specs.Fan.{side_fan}
use Rattle.fan.proofs.Adding.{added_both, added_counts, added_none}
use Rattle.fan.proofs.Counts.{grows_edge, fit_after, below_after}
use mathlib.Core.Path.{refl, sym}
use Prim.Native.Nat.{◌^◌}
use native.Mathlib.Nat.{add-zero}
use native.Mathlib.Omega.{arith}
use Rattle.fan.proofs.add_side.Goals as goal

pub add_ends-requires : goal.add_ends-requires
add_ends-requires c = record { fit = fit_after c.add_edge-s.ensures c.requires.fit; below = below_after c.add_edge-s.ensures {b = 2 ^ 61} _ 1 (omega arith) (grows_edge _) (record { candidates = c.requires.below.candidates; edges = c.requires.below.edges; events = c.requires.below.events }) }

pub returns-in_default : goal.returns-in_default
unfolding side_fan
returns-in_default c = rw c.in_default.is (added_both (added_counts 0 _ _ _ _ _ (sym (add-zero _)) refl refl refl) (added_none _ _ _))

pub returns : goal.returns
unfolding side_fan
returns c = rw c.in-Some.is (added_both (added_counts 0 _ _ _ _ _ (sym (add-zero _)) refl refl refl) (added_both c.add_edge-s.ensures c.add_ends.ensures))

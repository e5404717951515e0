-- `site::parts_inside` meets its contract. Assumes nothing.
use mathlib.Core.Path.{◌≡◌}
use Rattle.site.specs.Tables.{first_of, len_of}
use Rattle.lists.specs.Members.{all_to}
use lib.Dec.{leb}
use Prim.Native.Nat.{◌+◌}
use Rattle.site.proofs.parts_inside.Given as goal

abbrev pub invariant-loop-k : goal.invariant-loop-k
invariant-loop-k l = l.ok ≡ all_to (λ j. leb (first_of l.polygons j + len_of l.polygons j) l.m) l.k

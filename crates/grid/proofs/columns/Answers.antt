-- `grid::columns` meets its contract. Assumes nothing.
use mathlib.Core.Path.{◌≡◌, ◌∙◌, ap}
use native.Mathlib.Omega.{arith}
use lib.Ieee.{to_unsigned}
use Rattle.num.specs.Ops.{◌⊘◌}
use Rattle.num.specs.Num.{floor_of}
use Rattle.grid.specs.Range.{columns_of}
use Rattle.grid.proofs.columns.Goals as goal

pub returns-then-n-lt18446744073709551615 : goal.returns-then-n-lt18446744073709551615
unfolding columns_of
returns-then-n-lt18446744073709551615 c =
    let e : c.to_u64-n.result ≡ to_unsigned 64 (floor_of (c.args.extent ⊘ c.args.cell)) = c.to_u64-n.ensures ∙ ap (to_unsigned 64) c.floor.ensures in
    omega arith

pub returns-else-n-lt18446744073709551615 : goal.returns-else-n-lt18446744073709551615
unfolding columns_of
returns-else-n-lt18446744073709551615 c =
    let e : c.to_u64-n.result ≡ to_unsigned 64 (floor_of (c.args.extent ⊘ c.args.cell)) = c.to_u64-n.ensures ∙ ap (to_unsigned 64) c.floor.ensures in
    omega arith

-- `geom::Aabb::empty` meets its contract. Assumes nothing.
use lib.Ieee.{of_bits, div, neg}
use Rattle.std.proofs.Common.{refl}
use Rattle.geom.proofs.Aabb.empty.Goals as goal

pub returns : goal.returns
unfolding of_bits div neg
returns c = refl

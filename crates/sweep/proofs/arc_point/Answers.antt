-- `arc_point`: the operations of the Rust, in its order.
use Rattle.sweep.proofs.Ways.{arc_point_is}
use Rattle.sweep.proofs.arc_point.Goals as goal

pub returns : goal.returns
returns c = arc_point_is _ _ _ _ _ c.nearest_u64_to_f64-part.ensures c.nearest_u64_to_f64-whole.ensures c.point.ensures

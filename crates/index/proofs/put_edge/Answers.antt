-- `put_edge`: the one stretch and then the other. Assumes nothing.
use Rattle.std.proofs.Common.{arith}
use Rattle.index.proofs.Puts.{room_second, room_first, put_both}
use Rattle.index.proofs.put_edge.Goals as goal

pub put_stretch-requires : goal.put_stretch-requires
put_stretch-requires c = (c.requires.second_fits, c.requires.inside, room_second _ _ c.args.id _ c.requires)

pub put_stretch-requires-2 : goal.put_stretch-requires-2
put_stretch-requires-2 c = (c.requires.first_fits, omega (arith, c.put_stretch.auto.w, c.requires.inside), room_first _ _ _ _ c.requires _ c.put_stretch.auto.w c.put_stretch.ensures)

pub returns : goal.returns
returns c = put_both _ _ _ _ c.requires _ c.put_stretch.auto.w c.put_stretch.ensures _ c.put_stretch-2.ensures

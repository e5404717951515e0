-- `fit`: refusal 5, or the head of the site. Assumes nothing.
use mathlib.Core.Path.{sym, ◌∙◌}
use Prim.Native.Nat.{◌*◌, ◌≤◌}
use native.Mathlib.Omega.{arith}
use lib.ListN.{length}
use Rattle.build.specs.Refusals.{points_in}
use Rattle.build.proofs.Deciding.{no_room, some_room, space}
use Rattle.build.proofs.fit.Goals as goal

pub item_count-n-requires : goal.item_count-n-requires
item_count-n-requires c = (c.requires.0, c.requires.1)

pub overflow_mul-cells : goal.overflow_mul-cells
overflow_mul-cells c = omega (arith, c.requires.0.small)

pub has_room-requires : goal.has_room-requires
has_room-requires c = (c.requires.1.few_polygons, omega (arith, c.requires.1.few_points))

pub returns-then-not-has_room : goal.returns-then-not-has_room
returns-then-not-has_room c = no_room c.args.width c.args.height c.args.g c.args.given.now c.args.lens.now c.args.room c.requires.0 c.item_count-n.result c.item_count-n.ensures c.has_room.result c.has_room.ensures (c.if-not-has_room.true)

pub overflow_cast-result : goal.overflow_cast-result
overflow_cast-result c = omega (arith, c.requires.1.few_polygons)

pub overflow_cast-result-2 : goal.overflow_cast-result-2
overflow_cast-result-2 c = omega (arith, c.requires.1.few_points)

pub overflow_cast-result-3 : goal.overflow_cast-result-3
overflow_cast-result-3 c =
    let f : c.item_count-n.result ≤ 4294967295 = (space c.args.room (length c.args.lens.now) (points_in c.args.given.now) (c.args.g.cols * c.args.g.rows) c.item_count-n.result (sym c.has_room.ensures ∙ c.if-not-has_room.false)).few_items in
    omega arith

pub returns : goal.returns
returns c = some_room c.args.width c.args.height c.args.g c.args.given.now c.args.lens.now c.args.room c.requires.0 c.item_count-n.result c.item_count-n.ensures c.has_room.result c.has_room.ensures c.load.result c.load-2.result (c.if-not-has_room.false) c.load.ensures c.load-2.ensures

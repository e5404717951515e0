-- `build`: the order of nearness, and, where they fit, the starts and the references. Assumes nothing.
use Rattle.std.proofs.Common.{arith}
use Rattle.index.proofs.Builds.{some_few, not_many, over_starts, over_refs, fillable, done}
use Rattle.index.proofs.build.Goals as goal

pub count_refs-requires : goal.count_refs-requires
count_refs-requires c =
    let f = some_few c.args.mode c.args.k c.args.floats.now c.args.words.now c.args.n c.args.total c.requires c.order_keys.new.us c.nearest_w.result c.events_w.result c.nearest_w.ensures c.events_w.ensures c.order_keys.ensures c.head-x.result c.head-x.ensures in
    (f.0, f.1, omega (arith, c.requires.held))

pub returns-then-k-x : goal.returns-then-k-x
returns-then-k-x c = over_starts c.args.mode c.args.k c.args.floats.now c.args.words.now c.args.n c.args.total c.requires c.order_keys.new.us c.nearest_w.result c.events_w.result c.nearest_w.ensures c.events_w.ensures c.order_keys.ensures c.head-x.result c.head-x.ensures c.count_refs.result c.count_refs.ensures c.if-k-x.true

pub fill-requires : goal.fill-requires
fill-requires c = fillable c.args.mode c.args.k c.args.floats.now c.args.words.now c.args.n c.args.total c.requires c.order_keys.new.us c.nearest_w.result c.events_w.result c.nearest_w.ensures c.events_w.ensures c.order_keys.ensures c.head-x.result c.head-x.ensures c.if-k-x.false (not_many c.args.mode c.args.k c.args.floats.now c.args.words.now c.args.n c.args.total c.requires c.order_keys.new.us c.nearest_w.result c.events_w.result c.nearest_w.ensures c.events_w.ensures c.order_keys.ensures c.head-x.result c.head-x.ensures c.if-n-lt32768.true)

pub returns-then-n-lt32768 : goal.returns-then-n-lt32768
returns-then-n-lt32768 c = done c.args.mode c.args.k c.args.floats.now c.args.words.now c.args.n c.args.total c.requires c.order_keys.new.us c.nearest_w.result c.events_w.result c.nearest_w.ensures c.events_w.ensures c.order_keys.ensures c.head-x.result c.head-x.ensures c.if-k-x.false c.fill.result c.fill.new.words c.fill.ensures

pub count_refs-refs-requires : goal.count_refs-refs-requires
count_refs-refs-requires c =
    let f = some_few c.args.mode c.args.k c.args.floats.now c.args.words.now c.args.n c.args.total c.requires c.order_keys.new.us c.nearest_w.result c.events_w.result c.nearest_w.ensures c.events_w.ensures c.order_keys.ensures c.head-x.result c.head-x.ensures in
    (f.0, f.1, omega (arith, c.requires.held))

pub returns-then-k-refs : goal.returns-then-k-refs
returns-then-k-refs c = over_refs c.args.mode c.args.k c.args.floats.now c.args.words.now c.args.n c.args.total c.requires c.order_keys.new.us c.nearest_w.result c.events_w.result c.nearest_w.ensures c.events_w.ensures c.order_keys.ensures c.head-x.result c.head-x.ensures c.count_refs-refs.result c.count_refs-refs.ensures c.if-k-x.false (omega (arith, c.if-k-refs.true))

pub fill-requires-2 : goal.fill-requires-2
fill-requires-2 c = fillable c.args.mode c.args.k c.args.floats.now c.args.words.now c.args.n c.args.total c.requires c.order_keys.new.us c.nearest_w.result c.events_w.result c.nearest_w.ensures c.events_w.ensures c.order_keys.ensures c.head-x.result c.head-x.ensures c.if-k-x.false (omega (arith, c.if-k-refs.false, c.count_refs-refs.ensures, c.struct_known-1.given, c.struct_known-2-1.given))

pub returns : goal.returns
returns c = done c.args.mode c.args.k c.args.floats.now c.args.words.now c.args.n c.args.total c.requires c.order_keys.new.us c.nearest_w.result c.events_w.result c.nearest_w.ensures c.events_w.ensures c.order_keys.ensures c.head-x.result c.head-x.ensures c.if-k-x.false c.fill-2.result c.fill-2.new.words c.fill-2.ensures

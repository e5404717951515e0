-- `sample_rays`: too many, or cast and in order. Assumes nothing.
use Prim.Native.Nat.{◌^◌, ◌≤◌, ◌<◌}
use Rattle.rays.proofs.Ordering.{too_many, castable, keys_fit, all_done}
use native.Mathlib.Omega.{arith}
use Rattle.rays.proofs.sample_rays.Goals as goal

pub returns-then-k-n : goal.returns-then-k-n
returns-then-k-n c = too_many c.args.k c.args.view c.args.x c.args.events c.args.floats.now c.args.words.now c.requires c.sample_events-n.result c.sample_events-n.new.floats c.sample_events-n.new.words c.sample_events-n.ensures (omega (arith, c.if-k-n.true))

pub cast_all-requires : goal.cast_all-requires
cast_all-requires c = castable c.args.k c.args.view c.args.x c.args.events c.args.floats.now c.args.words.now c.requires c.sample_events-n.result c.sample_events-n.new.floats c.sample_events-n.new.words c.sample_events-n.ensures ((let it : (c.sample_events-n.result ≤ c.args.k.samples) × (c.sample_events-n.result < 2 ^ 32) = (omega (arith, c.if-k-n.false), omega (arith, c.if-k-n.false)) in it)).0

pub order_keys_if-requires : goal.order_keys_if-requires
order_keys_if-requires c = keys_fit c.args.k c.args.view c.args.x c.args.events c.args.floats.now c.args.words.now c.requires c.sample_events-n.result c.sample_events-n.new.floats c.sample_events-n.new.words c.sample_events-n.ensures ((let it : (c.sample_events-n.result ≤ c.args.k.samples) × (c.sample_events-n.result < 2 ^ 32) = (omega (arith, c.if-k-n.false), omega (arith, c.if-k-n.false)) in it)).0 c.cast_all.new.floats c.cast_all.new.words c.cast_all.ensures c.samples_f.result c.order_w.result c.seen_w.result c.samples_f.ensures c.order_w.ensures c.seen_w.ensures ((let it : (c.sample_events-n.result ≤ c.args.k.samples) × (c.sample_events-n.result < 2 ^ 32) = (omega (arith, c.if-k-n.false), omega (arith, c.if-k-n.false)) in it)).1

pub returns : goal.returns
returns c = all_done c.args.k c.args.view c.args.x c.args.events c.args.floats.now c.args.words.now c.requires c.sample_events-n.result c.sample_events-n.new.floats c.sample_events-n.new.words c.sample_events-n.ensures ((let it : (c.sample_events-n.result ≤ c.args.k.samples) × (c.sample_events-n.result < 2 ^ 32) = (omega (arith, c.if-k-n.false), omega (arith, c.if-k-n.false)) in it)).0 c.cast_all.new.floats c.cast_all.new.words c.cast_all.ensures c.samples_f.result c.order_w.result c.seen_w.result c.samples_f.ensures c.order_w.ensures c.seen_w.ensures c.order_keys_if.new.us c.order_keys_if.ensures

-- `fan::scan`: the polygons of the box query, one after the other. Assumes nothing.
use Rattle.fan.proofs.Scanning.{run_none, run_more, id_there, id_inside}
use Rattle.fan.proofs.Counts.{met_below, fit_after}
use mathlib.Core.Path.{◌≡◌}
use native.Mathlib.Omega.{arith}
use Rattle.fan.proofs.scan.Goals as goal

pub loop-m-init : goal.loop-m-init
loop-m-init c = run_none _ _ _ _ _ _ _

pub bounds-words-m : goal.bounds-words-m
bounds-words-m c = id_there c.requires c.loop-m.invariant (omega arith)

pub add_polygon-t-requires : goal.add_polygon-t-requires
add_polygon-t-requires c = record { fit = fit_after c.loop-m.invariant.added c.requires.fit; inside = id_inside c.requires c.loop-m.invariant (omega arith); below = met_below (omega (arith, c.requires.few, c.ranges, c.well_formed)) c.loop-m.invariant.met }

pub loop-m-preserved : goal.loop-m-preserved
loop-m-preserved c = run_more c.requires c.loop-m.invariant (omega arith) c.add_polygon-t.ensures

pub shape_of-floats : goal.shape_of-floats
shape_of-floats c = c.loop-m.invariant.added.floats_only.long

pub shape_of-words : goal.shape_of-words
shape_of-words c = c.loop-m.invariant.added.words_only.long

pub returns : goal.returns
returns c = let e : c.loop-m.m ≡ c.args.n = omega arith in rw e at c.loop-m.invariant.added

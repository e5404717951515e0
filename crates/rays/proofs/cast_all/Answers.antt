-- `cast_all`: the samples before i have their answers. Assumes nothing.
use Rattle.rays.proofs.Answers.{answered_none, answer_place, answered_more, answered_all}
use native.Mathlib.Omega.{arith}
use Rattle.rays.proofs.cast_all.Goals as goal

pub loop-i-init : goal.loop-i-init
loop-i-init c = answered_none c.args.k c.args.view c.args.x c.args.n c.args.floats.now c.args.words.now c.requires

pub cast_one-requires : goal.cast_one-requires
cast_one-requires c = answer_place c.args.k c.args.view c.args.x c.args.n c.args.floats.now c.args.words.now c.requires c.loop-i.floats c.loop-i.words c.loop-i.i c.loop-i.invariant (omega arith)

pub loop-i-preserved : goal.loop-i-preserved
loop-i-preserved c = answered_more c.args.k c.args.view c.args.x c.args.n c.args.floats.now c.args.words.now c.requires c.loop-i.floats c.loop-i.words c.loop-i.i c.loop-i.invariant c.loop-i-test.true c.cast_one.new.floats c.cast_one.new.words c.cast_one.ensures

pub returns : goal.returns
returns c = answered_all c.args.k c.args.view c.args.x c.args.n c.args.floats.now c.args.words.now c.requires c.loop-i.floats c.loop-i.words c.loop-i.i c.loop-i.invariant (omega arith)

-- `push`: room for one more, or none. Assumes nothing.
use Rattle.rays.proofs.Emitting.{emits_one, emits_full}
use native.Mathlib.Omega.{arith}
use Rattle.rays.proofs.push.Goals as goal
use Rattle.rays.proofs.push.Goals.{then-n-k, else-n-k}

pub returns : goal.returns
returns c =
    elim c.if-n-k.branch [
      | then-n-k w ↦ rw (w.floats-is, w.words-is) (emits_one c.args.k c.args.n c.args.s c.args.floats.now c.args.words.now (omega (arith)) w.put_sample.new.floats w.put_sample.new.words w.put_sample.ensures)
      | else-n-k w ↦ rw (w.floats-is, w.words-is) (emits_full c.args.k c.args.n c.args.s c.args.floats.now c.args.words.now (omega (arith)))
    ]

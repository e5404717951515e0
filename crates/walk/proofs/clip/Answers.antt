-- `walk::clip` meets its contract. Assumes nothing.
use Rattle.walk.specs.Clipping.{clip_of}
use Rattle.walk.proofs.clip.Goals as goal
use Rattle.walk.proofs.clip.Goals.{then-o-lo-via-then-o-lo, then-o-lo-via-else-o-lo+then-o-hi}

pub returns-then-o-lo : goal.returns-then-o-lo
unfolding clip_of
returns-then-o-lo c =
    elim c.then-o-lo.branch [
      | then-o-lo-via-then-o-lo w ↦ simp (← c.abs.ensures, c.if-abs.true, w.if-o-lo.true)
      | then-o-lo-via-else-o-lo+then-o-hi w ↦ simp (← c.abs.ensures, c.if-abs.true, w.if-o-lo.false, w.if-o-hi.true)
    ]

pub returns-then-abs : goal.returns-then-abs
unfolding clip_of
returns-then-abs c = simp (← c.abs.ensures, c.if-abs.true, c.if-o-lo.false, c.if-o-hi.false)

pub returns-then-a-b : goal.returns-then-a-b
unfolding clip_of
returns-then-a-b c = simp (← c.abs.ensures, c.if-abs.false, c.if-a-b.true, ← c.max.ensures, ← c.min.ensures)

pub returns : goal.returns
unfolding clip_of
returns c = simp (← c.abs.ensures, c.if-abs.false, c.if-a-b.false, ← c.max-2.ensures, ← c.min-2.ensures)

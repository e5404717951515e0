-- `walk::traverse_ray` meets its contract. Assumes nothing.
use Rattle.std.proofs.Common.{eq-eqb}
use borrow.Author.Tests.{ne_eqb}
use Rattle.walk.specs.Clipping.{ray_start}
use Rattle.walk.proofs.traverse_ray.Goals as goal
use Rattle.walk.proofs.traverse_ray.Goals.{then-g-eq0-via-then-g-eq0, then-g-eq0-via-else-g-eq0+then-g-eq0-2}

pub returns-then-g-eq0 : goal.returns-then-g-eq0
unfolding ray_start
returns-then-g-eq0 c =
    elim c.then-g-eq0.branch [
      | then-g-eq0-via-then-g-eq0 w ↦ simp (eq-eqb _ _ w.if-g-eq0.true)
      | then-g-eq0-via-else-g-eq0+then-g-eq0-2 w ↦ simp (ne_eqb _ _ w.if-g-eq0.false, eq-eqb _ _ w.if-g-eq0-2.true)
    ]

pub returns-in_err-t0 : goal.returns-in_err-t0
unfolding ray_start
returns-in_err-t0 c = simp (c.from_residual.ensures, ne_eqb _ _ c.if-g-eq0.false, ne_eqb _ _ c.if-g-eq0-2.false, ← c.clip_box.ensures, c.in_err-t0.was)

pub returns-then-t0-t1 : goal.returns-then-t0-t1
unfolding ray_start
returns-then-t0-t1 c = simp (ne_eqb _ _ c.if-g-eq0.false, ne_eqb _ _ c.if-g-eq0-2.false, ← c.clip_box.ensures, c.in_ok-t0.was, c.if-t0-t1.true)

pub returns : goal.returns
unfolding ray_start
returns c = simp (ne_eqb _ _ c.if-g-eq0.false, ne_eqb _ _ c.if-g-eq0-2.false, ← c.clip_box.ensures, c.in_ok-t0.was, c.if-t0-t1.false, ← c.set_out.ensures)

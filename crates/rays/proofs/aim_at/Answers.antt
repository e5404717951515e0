-- `aim_at`: a full view, and a sector. Assumes nothing.
use Rattle.rays.proofs.Ways.{aim_full, aim_kept, aim_none}
use Rattle.rays.proofs.aim_at.Goals as goal

pub returns-then-view : goal.returns-then-view
returns-then-view c = aim_full _ _ _ c.step.ensures c.if-view.true c.wrap.ensures

pub returns-then-kept : goal.returns-then-kept
returns-then-kept c = aim_kept _ _ _ c.step.ensures c.if-view.false c.if-kept.true

pub returns-else-kept : goal.returns-else-kept
returns-else-kept c = aim_none _ _ _ c.step.ensures c.if-view.false c.if-kept.false

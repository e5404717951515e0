-- `cone::ViewCone::aabb` meets its contract: the test is the definition's. Assumes nothing.
use Rattle.cone.specs.Cone.{aabb_of}
use Rattle.cone.proofs.ViewCone.aabb.Goals as goal

pub returns-then-is_full : goal.returns-then-is_full
unfolding aabb_of
returns-then-is_full c = simp (c.around.ensures, c.reach-r.ensures, ← c.is_full.ensures, c.if-is_full.true)

pub returns : goal.returns
unfolding aabb_of
returns c = simp (c.sector_box.ensures, c.view_of.ensures, c.reach-r.ensures, ← c.is_full.ensures, c.if-is_full.false)

-- `ray_hits_aabb`: the slab test, operation by operation. Assumes nothing.
use Rattle.sight.specs.Slabs.{ray_hits_aabb_of}
use Rattle.sight.proofs.ray_hits_aabb.Goals as goal

pub returns : goal.returns
unfolding ray_hits_aabb_of
returns c = simp (c.max-3.ensures, c.min-t_far.ensures, c.max-2.ensures, c.max.ensures, c.max-t_near.ensures, c.min-2.ensures, c.min.ensures)

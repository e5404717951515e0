-- `probe::bf_inner_ray_cells` meets its contract. Assumes nothing.
use mathlib.Core.Path.{sym, ap, ◌∙◌}
use lib.ListN.{length}
use Rattle.walk.proofs.StartLaws.{start_in}
use Rattle.probe.proofs.Walking.{ray_count, ray_out, miss, miss_out}
use Rattle.probe.proofs.bf_inner_ray_cells.Goals as goal

pub list_cells-requires : goal.list_cells-requires
list_cells-requires c = (start_in _ _ _ _ _ _ (sym c.traverse_ray.ensures ∙ c.in-Some.is)).on_grid

pub returns-in-Some : goal.returns-in-Some
returns-in-Some c = let e = rw c.grid_of-g.ensures at (sym c.traverse_ray.ensures ∙ c.in-Some.is) in record { value = ray_count _ _ _ _ _ _ _ e c.list_cells.ensures.value; out_after = ray_out _ _ _ _ _ _ _ _ e c.list_cells.ensures.out_after }

pub returns-in-None : goal.returns-in-None
returns-in-None c = let e = rw c.grid_of-g.ensures at (sym c.traverse_ray.ensures ∙ c.in-None.is) in record { value = sym (ap length (miss _ _ _ _ e)); out_after = miss_out _ _ _ _ _ e }

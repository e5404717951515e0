-- `cast_ray`: the walk from where the ray enters the grid, or no cell and a miss. Assumes nothing.
use Rattle.sight.proofs.Looking.{cast_from, cast_miss}
use Rattle.walk.proofs.StartLaws.{start_in}
use mathlib.Core.Path.{sym, ◌∙◌}
use Rattle.sight.proofs.cast_ray.Goals as goal

pub look_along-requires : goal.look_along-requires
look_along-requires c = (start_in _ _ _ _ _ _ (sym c.traverse_ray.ensures ∙ c.in-Some.is)).on_grid

pub returns-in-Some : goal.returns-in-Some
returns-in-Some c = cast_from _ _ _ _ _ _ _ _ _ _ _ _ _ _ (sym c.traverse_ray.ensures ∙ c.in-Some.is) c.none-recent.ensures c.look_along.ensures

pub returns-in-None : goal.returns-in-None
returns-in-None c = cast_miss _ _ _ _ _ _ _ _ _ _ (sym c.traverse_ray.ensures ∙ c.in-None.is)

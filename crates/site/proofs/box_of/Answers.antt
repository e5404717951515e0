-- `site::box_of` meets its contract. Assumes nothing.
use Rattle.extent.specs.Boxes.{polygon_box_of}
use mathlib.Core.Path.{ap, ◌∙◌}
use Rattle.site.proofs.box_of.Goals as goal

pub returns : goal.returns
returns c = c.polygon_box.ensures ∙ ap polygon_box_of c.verts_of.ensures

-- `cone::sector_box` meets its contract: the same seven steps. Assumes nothing.
use Rattle.cone.specs.Cone.{sector_box_of}
use Rattle.cone.proofs.sector_box.Goals as goal

pub returns : goal.returns
unfolding sector_box_of
returns c = simp (c.with_axis.ensures, c.with_axis-third.ensures, c.with_axis-second.ensures, c.with_axis-first.ensures, c.include-ends.ensures, c.rim-2.ensures, c.include.ensures, c.rim.ensures, c.new-corner.ensures)

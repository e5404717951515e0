-- `add_place`: one point more is behind the last one, or past the room.
use Rattle.outline.proofs.Ways.{room_add, room_full}
use Rattle.outline.proofs.add_place.Goals as goal

pub returns-then-n-pts : goal.returns-then-n-pts
returns-then-n-pts c = record { is = room_add _ _ c.if-n-pts.true; safe = c.if-n-pts.true }

pub returns-else-n-pts : goal.returns-else-n-pts
returns-else-n-pts c = record { is = room_full _ _ c.if-n-pts.false; safe = tt }

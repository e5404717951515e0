-- `note`: one stretch, or all others. Assumes nothing.
use Rattle.std.proofs.Common.{arith}
use Rattle.index.proofs.Notes.{note_none}
use Rattle.index.proofs.note.Goals as goal

pub overflow_mul-result : goal.overflow_mul-result
overflow_mul-result c = omega (arith, c.requires)

pub overflow_add-result : goal.overflow_add-result
overflow_add-result c = omega (arith, c.requires)

pub overflow_cast-result : goal.overflow_cast-result
overflow_cast-result c = omega (arith, c.requires)

pub returns : goal.returns
returns c = note_none _

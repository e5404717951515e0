-- A float beyond a list's end is the one NaN. Assumes nothing.
use Rattle.std.proofs.Common.{refl}
use Rattle.lists.proofs.F64Entry.beyond.Goals as goal

pub returns : goal.returns
unfolding lib.Ieee.of_bits
returns c = refl

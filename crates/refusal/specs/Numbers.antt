-- Document 01, "Refusal numbers": the number of each refusal, and the status of an answer: 0, or the number of
-- its refusal. Definitions only.
use Rattle.std.specs.Prelude.{ℕ, Result, Ok, Err}
use Rattle.refusal.specs.declared.Refusal.{Refusal}
use Rattle.refusal.specs.declared.Refusal.TheVariants.{OutsideDomain, TooMany, LengthsDiffer, TooManyCells, NoTableRoom, Unsound, FewStamps, NoListRoom, NotAsLaidOut}

abbrev pub number_of : Refusal → ℕ
number_of OutsideDomain = 1
number_of TooMany = 2
number_of LengthsDiffer = 3
number_of TooManyCells = 4
number_of NoTableRoom = 5
number_of Unsound = 6
number_of FewStamps = 7
number_of NoListRoom = 8
number_of NotAsLaidOut = 9

abbrev pub status_of : {A : Type 0} → Result A Refusal → ℕ
status_of (Ok x) = 0
status_of (Err r) = number_of r

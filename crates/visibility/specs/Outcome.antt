-- What an outline call answers and leaves behind: one outcome for each input, the answer and every lent cell. Document 01, "Refusal numbers": 6, 1 and 7
-- write nothing; what comes after the tests is specs/Outcome.antt of crate `view`. Definitions only.
use Rattle.std.specs.Prelude.{◌≡◌, ℕ, length, Float, Result, Ok, Err}
use Rattle.refusal.specs.declared.Refusal.{Refusal}
use Rattle.site.specs.declared.Site.{Site}
use Rattle.site.specs.Tables.{Tables}
use Rattle.site.specs.Domain.{load_of}
use Rattle.cone.specs.declared.ViewCone.{ViewCone}
use Rattle.room.specs.declared.Rooms.{Rooms}
use Rattle.view.specs.Outcome.{Lent, Outcome, out, seen_from_of}
use Rattle.cone.specs.Domain.{load_cone_of}
use Rattle.visibility.specs.Asked.{admit_of}

-- 6, 1, 7 write nothing
abbrev pub outcome_by : Result (Unit {0}) Refusal → Site → Tables → ViewCone → Float → ℕ → Rooms → Lent → Outcome
outcome_by (Ok u) site t c tolerance mode k l = seen_from_of site t (load_cone_of c) (load_of tolerance) mode k l
outcome_by (Err r) site t c tolerance mode k l = out (Err r) l

-- THE OUTCOME of an outline call
unfoldable pub outcome : Site → Tables → ViewCone → Float → ℕ → Rooms → Lent → Outcome
outcome site t c tolerance mode k l = outcome_by (admit_of site t c mode (length l.marks)) site t c tolerance mode k l

-- its promise, the one clause of its contract
abbrev pub Promise : Site → Tables → ViewCone → Float → ℕ → Rooms → Lent → Outcome → Type 0
Promise site t c tolerance mode k l o = o ≡ outcome site t c tolerance mode k l

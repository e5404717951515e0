-- What a box query and a point's cell answer, and what is left behind: one outcome for each input. Document 01, "Site and grid" and "Refusal numbers".
-- Definitions only.
use Rattle.std.specs.Prelude.{ℕ, ◌+◌, ◌*◌, ◌≡◌, List, [], cond, length, replicate, ltb, Option, Some, None, Result, Ok, Err}
use Rattle.lists.specs.Parts.{padded}
use Rattle.geom.specs.declared.Vec2.{Vec2}
use Rattle.geom.specs.declared.Aabb.{Aabb}
use Rattle.geom.specs.Box.{box}
use Rattle.grid.specs.Range.{range_of}
use Rattle.grid.specs.Stamps.{epoch_after, marks_begun, stamped, firsts}
use Rattle.grid.specs.Entries.{cell_of, entries_in}
use Rattle.grid.specs.declared.Grid.{Grid}
use Rattle.grid.specs.declared.Listing.{Listing}
use Rattle.refusal.specs.declared.Refusal.{Refusal}
use Rattle.refusal.specs.declared.Refusal.TheVariants.{NoListRoom}
use Rattle.grid.specs.declared.CellRange.{CellRange}

-- so many ids written, and so many entries read
abbrev pub counted : ℕ → ℕ → Result Listing Refusal
counted written read = Ok (record { written = written; read = read })

-- the answer, and at exit the marks, the epoch and the lent list of ids
pub record Outcome : Type 0 where
  pub answer : Result Listing Refusal
  pub marks : List ℕ
  pub epoch : ℕ
  pub ids : List ℕ

-- every part of an outcome
pub record Is (o : Outcome) (answer : Result Listing Refusal) (marks : List ℕ) (epoch : ℕ) (ids : List ℕ) : Type 0 where
  pub answer_is : answer ≡ o.answer
  pub marks_are : marks ≡ o.marks
  pub epoch_is : epoch ≡ o.epoch
  pub ids_are : ids ≡ o.ids

-- a list found by reading n entries, in room for k ids: refused as 8 where it is longer
abbrev pub listing : ℕ → List ℕ → ℕ → Result Listing Refusal
listing k found n = cond (ltb k (length found)) (Err NoListRoom) (counted (length found) n)

-- what the room holds afterwards: the list and then zeros, or zeros alone
abbrev pub laid : ℕ → List ℕ → List ℕ
laid k found = cond (ltb k (length found)) (replicate k 0) (padded 0 k found)

-- the outcome of meeting the entries xs in the epoch after e, with the marks m, in room for k ids. Refused or not, the stamps end alike
abbrev pub meeting : List ℕ → List ℕ → ℕ → ℕ → Outcome
meeting xs m e k = record {
  answer = listing k (firsts (epoch_after e) (marks_begun e m) xs) (length xs);
  marks = stamped (epoch_after e) (marks_begun e m) xs;
  epoch = epoch_after e;
  ids = laid k (firsts (epoch_after e) (marks_begun e m) xs);
}

-- the outcome over a range of cells; without a range no stamp changes, and the list is all zero
unfoldable pub outcome_by : Grid → Option CellRange → List ℕ → List ℕ → List ℕ → ℕ → ℕ → Outcome
outcome_by g None starts items m e k = record { answer = counted 0 0; marks = m; epoch = e; ids = replicate k 0 }
outcome_by g (Some r) starts items m e k = meeting (entries_in g r starts items) m e k

-- the outcome of a box query
unfoldable pub outcome : Grid → Aabb → List ℕ → List ℕ → List ℕ → ℕ → ℕ → Outcome
outcome g b = outcome_by g (range_of g b)

-- the ids that a query finds, whatever room is lent for them: those that the Rust's visitor is called with
unfoldable pub found_by : Grid → Option CellRange → List ℕ → List ℕ → List ℕ → ℕ → List ℕ
found_by g None starts items m e = []
found_by g (Some r) starts items m e = firsts (epoch_after e) (marks_begun e m) (entries_in g r starts items)

unfoldable pub found_of : Grid → Aabb → List ℕ → List ℕ → List ℕ → ℕ → List ℕ
found_of g b = found_by g (range_of g b)

-- the items of the cell that holds p, none off the grid
unfoldable pub items_by : Grid → Option CellRange → List ℕ → List ℕ → List ℕ
items_by g None starts items = []
items_by g (Some r) starts items = cell_of starts items (r.r0 * g.cols + r.c0)

unfoldable pub items_at : Grid → Vec2 → List ℕ → List ℕ → List ℕ
items_at g p = items_by g (range_of g (box p p))

-- What the engine without tables answers, and what it leaves in the list of ids: one outcome for each input. Document 02, Q-6: "6, 1 and 8 as for the grid, tested
-- on points, polygons, cell, its inverse, origin, columns and rows only". Refused as 6 or 1, nothing is written; refused as 8, the list is all zero.
-- Definitions only.
use Rattle.std.specs.Prelude.{◌≡◌, cond, List, ℕ, length, Float, Option, Err, Result}
use Rattle.geom.specs.declared.Aabb.{Aabb}
use Rattle.grid.specs.declared.Grid.{Grid}
use Rattle.grid.specs.declared.Listing.{Listing}
use Rattle.grid.specs.Range.{range_of}
use Rattle.grid.specs.Query.{listing, laid}
use Rattle.tables.specs.Tables.{held_in}
use Rattle.site.specs.declared.Site.{Site}
use Rattle.site.specs.Domain.{box_in_domain, load_box_of}
use Rattle.site.specs.Soundness.{sound_plain}
use Rattle.build.specs.Outcome.{span_at}
use Rattle.near.specs.Shared.{near_of}
use Rattle.grid.specs.declared.CellRange.{CellRange}
use Rattle.refusal.specs.declared.Refusal.{Refusal}
use Rattle.refusal.specs.declared.Refusal.TheVariants.{OutsideDomain, Unsound}

-- ---- the answer, and at exit the lent list of ids
pub record Outcome : Type 0 where
  pub answer : Result Listing Refusal
  pub ids : List ℕ

-- both parts of an outcome
pub record Is (o : Outcome) (answer : Result Listing Refusal) (ids : List ℕ) : Type 0 where
  pub answer_is : answer ≡ o.answer
  pub ids_are : ids ≡ o.ids

-- refused, and nothing written
abbrev pub kept : List ℕ → Refusal → Outcome
kept ids refusal = record { answer = Err refusal; ids = ids }

-- the outcome over a range, in room for k ids: the list, and as many entries as the range's cells hold. A list that is too long is refused as 8
abbrev pub outcome_in : (ℕ → Option CellRange) → ℕ → ℕ → Option CellRange → ℕ → Outcome
outcome_in span n cols q k = record { answer = listing k (near_of span n q) (held_in span n cols q); ids = laid k (near_of span n q) }

-- of a loaded box: the ids found, whatever room is lent for them, and the entries that the cells of its range hold. Each polygon's range is worked out from its points
abbrev pub found_near : Grid → List Float → List ℕ → ℕ → Aabb → List ℕ
found_near g points polygons n b = near_of (span_at g points polygons) n (range_of g b)

abbrev pub entries_held : Grid → List Float → List ℕ → ℕ → Aabb → ℕ
entries_held g points polygons n b = held_in (span_at g points polygons) n g.cols (range_of g b)

-- over a box
unfoldable pub query_of : Grid → List Float → List ℕ → ℕ → Aabb → ℕ → Outcome
query_of g points polygons n b k = outcome_in (span_at g points polygons) n g.cols (range_of g b) k

-- THE OUTCOME of the call: 6, then 1, then the query, which may refuse as 8
unfoldable pub plain_of : Site → List Float → List ℕ → Aabb → List ℕ → Outcome
plain_of site points polygons b ids =
    cond (sound_plain site points polygons)
    (cond (box_in_domain b) (query_of site.grid points polygons site.polygons (load_box_of b) (length ids)) (kept ids OutsideDomain))
    (kept ids Unsound)

-- The calls that write: new stamps and the box query (`Scene::new_stamps` and `Scene::for_each_polygon_near`, scene.rs). One outcome for each input: the answer
-- and every lent cell at exit. Document 01, "Refusal numbers": refused as 6, 1 or 7, nothing is written; refused as 8, the list is all zero, and the stamps are
-- left as the unrefused call leaves them (`outcome` of `grid`). Definitions only.
use Rattle.std.specs.Prelude.{ℕ, ◌≡◌, true, cond, List, ltb, length, replicate, Result, Ok, Err}
use Rattle.geom.specs.declared.Aabb.{Aabb}
use Rattle.grid.specs.Query.{Outcome, outcome}
use Rattle.site.specs.declared.Site.{Site}
use Rattle.site.specs.Tables.{Tables}
use Rattle.site.specs.Domain.{box_in_domain, load_box_of}
use Rattle.refusal.specs.declared.Refusal.{Refusal}
use Rattle.refusal.specs.declared.Refusal.TheVariants.{FewStamps}
use Rattle.scene.specs.Asked.{asked}

-- ---- new stamps
-- the answer, and at exit the marks and the epoch
pub record NewOutcome : Type 0 where
  pub answer : Result (Unit {0}) Refusal
  pub marks : List ℕ
  pub epoch : ℕ

-- every part of an outcome
pub record NewIs (o : NewOutcome) (answer : Result (Unit {0}) Refusal) (marks : List ℕ) (epoch : ℕ) : Type 0 where
  pub answer_is : answer ≡ o.answer
  pub marks_are : marks ≡ o.marks
  pub epoch_is : epoch ≡ o.epoch

-- refused, and nothing written
abbrev pub new_kept : List ℕ → ℕ → Refusal → NewOutcome
new_kept m e r = record { answer = Err r; marks = m; epoch = e }

-- zero marks and epoch 0, where there is a mark for each polygon
unfoldable pub new_stamps_of : Site → Tables → List ℕ → ℕ → NewOutcome
new_stamps_of site t m e =
    asked (new_kept m e) site t true
    (cond (ltb (length m) site.polygons) (new_kept m e FewStamps) (record { answer = Ok tt; marks = replicate (length m) 0; epoch = 0 }))

-- ---- the box query
-- refused, and nothing written
abbrev pub kept : List ℕ → ℕ → List ℕ → Refusal → Outcome
kept m e ids r = record { answer = Err r; marks = m; epoch = e; ids = ids }

-- the polygons near a box: 6, 1 and 7, and then the query of the grid, which may refuse as 8
unfoldable pub polygons_near_of : Site → Tables → Aabb → List ℕ → ℕ → List ℕ → Outcome
polygons_near_of site t b m e ids =
    asked (kept m e ids) site t (box_in_domain b)
    (cond (ltb (length m) site.polygons) (kept m e ids FewStamps) (outcome site.grid (load_box_of b) t.starts t.items m e (length ids)))

-- Building's answer as plain numbers: its status, 0 or document 01's number of the refusal, and the head of the site, zeros where it is refused. Document 01,
-- "Choosing the form by place" ("If an answer is an enum, a definition gives this paper's number and values for each case") and "Refusal numbers". Definitions only.
use Rattle.std.specs.Prelude.{List, [], ◌∷◌, ℕ, Float, Err, Ok, Result}
use Rattle.num.specs.Ops.{zero_f}
use Rattle.refusal.specs.declared.Refusal.{Refusal}
use Rattle.site.specs.declared.Site.{Site}

-- width, height, the grid's origin, its cell and the inverse
abbrev pub made_floats : (Result Site Refusal) → List Float
made_floats (Ok s) = s.width ∷ s.height ∷ s.grid.origin.x ∷ s.grid.origin.y ∷ s.grid.cell ∷ s.grid.inv_cell ∷ []
made_floats (Err n) = zero_f ∷ zero_f ∷ zero_f ∷ zero_f ∷ zero_f ∷ zero_f ∷ []

-- columns, rows, polygons, points and items
abbrev pub made_counts : (Result Site Refusal) → List ℕ
made_counts (Ok s) = s.grid.cols ∷ s.grid.rows ∷ s.polygons ∷ s.points ∷ s.items ∷ []
made_counts (Err n) = 0 ∷ 0 ∷ 0 ∷ 0 ∷ 0 ∷ []

-- THE ANSWER of the text program: what is printed for each text, refused or not (document 01, "The text program"). Text is checked first (9), then
-- 64 and 512 (2), then the library's own order: 2, 3, 1, 4, 5 for building, 6, 1, 7, 8 for the outline. "It prints the outline as a closed `POLYGON` ..;
-- then each visible polygon, rising by id, as a stored, closed `POLYGON`. A refusal prints `REFUSED n` alone." The decimals are a parameter: six, by
-- document 02's Q-7, and three for readers limited to them. Definitions only, but for the two numbers of the longest answer.
use Rattle.std.specs.Prelude.{◌≡◌, refl, List, [], ◌∷◌, ◌++◌, ℕ, ◌+◌, ◌*◌, ◌≤◌, length, take, Float, Err, Ok, Result}
use Rattle.num.specs.Ops.{zero_f}
use Rattle.geom.specs.Vec.{vec}
use Rattle.site.specs.declared.Site.{Site}
use Rattle.site.specs.Tables.{Tables, verts_of}
use Rattle.build.specs.Outcome as build
use Rattle.cone.specs.Cone.{full_of}
use Rattle.visibility.specs.Beside.{tenth}
use Rattle.view.specs.Outcome.{Outcome}
use Rattle.visibility.specs.Outcome.{outcome}
use Rattle.wkt.specs.declared.Input.{Input}
use Rattle.wkt.specs.Parse.{Parse}
use Rattle.wkt.specs.Grammar.{Point, Text}
use Rattle.wkt.specs.Answer.{text_in, input_of, rings_of, all_coords, lengths, held}
use Rattle.wkt_print.specs.Decimal.{Printed}
use Rattle.wkt_print.specs.Lines.{points_of, polygon_text, refused_text}
use Rattle.planner.specs.Rooms.{rooms, site_room, work_room}
use Rattle.refusal.specs.declared.Refusal.{Refusal}
use Rattle.refusal.specs.Numbers.{number_of}
use Rattle.stages.specs.declared.Shown.{Shown}

-- the decimals of `answer`, and those of `answer_three`
abbrev pub six_places : ℕ
six_places = 6

abbrev pub three_places : ℕ
three_places = 3

-- ---- what is seen
-- a line for each polygon of the ids: its points as they are stored
abbrev pub lines_of : ℕ → List Float → List ℕ → List ℕ → List ℕ
lines_of places points polygons [] = []
lines_of places points polygons (k ∷ ids) = polygon_text places (points_of (verts_of points polygons k)) ++ lines_of places points polygons ids

-- an outline of n points, and m visible polygons
unfoldable pub seen_text : ℕ → ℕ → ℕ → List Float → List ℕ → List Float → List ℕ → List ℕ
seen_text places n m points polygons outline visible = polygon_text places (points_of (take (2 * n) outline)) ++ lines_of places points polygons (take m visible)

abbrev pub shown_by : ℕ → Result Shown Refusal → List Float → List ℕ → List Float → List ℕ → List ℕ
shown_by places (Ok s) points polygons outline visible = seen_text places s.points s.visible points polygons outline visible
shown_by places (Err r) points polygons outline visible = refused_text (number_of r)

-- ---- from the post, all around: cone full, tolerance 0.1
unfoldable pub outline_of : Site → Tables → Float → Float → Float → Outcome
outline_of site t x y range = outcome site t (full_of (vec x y) range) tenth 0 rooms work_room

unfoldable pub shown_text : ℕ → Site → Tables → Float → Float → Float → List ℕ
shown_text places site t x y range = shown_by places (outline_of site t x y range).answer t.points t.polygons (outline_of site t x y range).left.outline (outline_of site t x y range).left.visible

-- ---- the site, of width and height 0
abbrev pub built_by : ℕ → Result Site Refusal → Tables → Float → Float → Float → List ℕ
built_by places (Ok s) t x y range = shown_text places s t x y range
built_by places (Err r) t x y range = refused_text (number_of r)

unfoldable pub site_of : List Float → List ℕ → build.Outcome
site_of given lens = build.outcome zero_f zero_f given lens site_room

unfoldable pub planned_text : ℕ → Float → Float → Float → List Float → List ℕ → List ℕ
planned_text places x y range given lens = built_by places (site_of given lens).answer (site_of given lens).left x y range

-- ---- the text
abbrev pub answer_by : ℕ → Result Input Refusal → List (List Point) → List ℕ
answer_by places (Ok a) rs = planned_text places a.x a.y a.range (all_coords rs) (lengths rs)
answer_by places (Err r) rs = refused_text (number_of r)

-- to what was read of a text
abbrev pub answer_to : ℕ → Parse Text → List ℕ
answer_to places r = answer_by places (input_of r) (rings_of r)

unfoldable pub answer_of : ℕ → List ℕ → List ℕ
answer_of places text = answer_to places (text_in text)

-- ---- the promises
-- a point and its comma have no more bytes: 35 with six decimals, 29 with three
abbrev pub point_bytes : ℕ → ℕ
point_bytes places = 23 + 2 * places

-- no answer is longer: an outline of 2,048 points, and 64 polygons of 512 points together; so many bytes for each point and each of the 65 closing ones
-- (2048 + 512 + 65), and 14 for each of the 65 lines (14 * 65)
abbrev pub longest : ℕ → ℕ
longest places = point_bytes places * 2625 + 910

longest_are : (longest six_places ≡ 92785) × (longest three_places ≡ 77035)
longest_are = (refl, refl)

-- of the printing functions: the text is printed from the start, and no longer than that
pub record Told (places : ℕ) (out t out' : List ℕ) (r : ℕ) : Type 0 where
  pub printed : Printed out 0 t out' r
  pub fits : r ≤ longest places

-- of `answer` and `answer_three`: how long the answer is, and as much of it as there is room for, with zeros behind. `longest` bytes are always room enough
pub record Answers (places : ℕ) (text out : List ℕ) (r : ℕ) (out' : List ℕ) : Type 0 where
  pub long : r ≡ length (answer_of places text)
  pub says : out' ≡ held 0 (length out) (answer_of places text)
  pub fits : r ≤ longest places

-- what printing the polygons asks: few decimals, points and ids, and that only an outline's line stands before them, so that no place passes what a number holds
pub record Few (places : ℕ) (points : List Float) (ids : List ℕ) (at : ℕ) : Type 0 where
  pub places_few : places ≤ 6
  pub points_few : length points ≤ 1024
  pub ids_few : length ids ≤ 64
  pub at_few : at ≤ 14 + 2049 * point_bytes places

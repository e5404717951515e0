-- WHEN BUILDING REFUSES, AND AS WHAT: its status is n if and only if document 01's row of n says so, in document 01's order of checks, 2, 3, 1, 4, 5; what passes them
-- all is built, with status 0. Document 01, "Refusal numbers". Assumes nothing.
use Rattle.std.proofs.Common.{Err, Ok, Result}
use mathlib.Core.Path.{◌≡◌, refl}
use mathlib.Core.Bool.{true, false, ◌&&◌}
use mathlib.Core.List.{List}
use Prim.Native.Nat.{ℕ, ◌*◌}
use lib.ListN.{length, get_or}
use lib.Dec.{ltb}
use lib.Ieee.{Float, nan}
use borrow.Author.Tests.{leb-true, le-leb, ltb-false, lt-ltb, le-ltb, eqb-true, eq-eqb}
use Rattle.lists.proofs.AllTo.{both, neither, all_to_at, all_to_lem}
use Rattle.bounds.specs.Domain.{in_domain, in_size}
use Rattle.grid.specs.declared.Grid.{Grid}
use Rattle.site.specs.Checks.{Exactly}
use Rattle.site.specs.Tables.{Tables}
use Rattle.site.proofs.Checks.{all_passed, by_true, by_false, either}
use Rattle.build.specs.declared.Rooms.{Rooms}
use Rattle.build.specs.Stored.{first_in, grid_of}
use Rattle.build.specs.Refusals.{points_in, too_many, adds_up, numbers_in, all_inside, few_cells, item_count, has_room}
use Rattle.build.specs.Checks.{Few, AddUp, Inside, Space, grid_checks, build_checks}
use Rattle.build.specs.Outcome.{plan_by, plan_of, outcome_by, rooms_of, outcome}
use Rattle.build.proofs.Deciding.{space}
use Rattle.refusal.specs.declared.Refusal.{Refusal}
use Rattle.site.specs.declared.Site.{Site}
use Rattle.refusal.specs.Numbers.{status_of}

-- ---- each test says what its row says
few : (given : List Float) (lens : List ℕ) → too_many given lens ≡ false → Few given lens
unfolding too_many
few given lens e =
    let a = neither (ltb 4096 (length lens)) (ltb 65536 (points_in given)) e in
    record { few_polygons = ltb-false 4096 (length lens) a.0; few_points = ltb-false 65536 (points_in given) a.1 }

not_many : (given : List Float) (lens : List ℕ) → Few given lens → too_many given lens ≡ false
unfolding too_many
not_many given lens f = rw (le-ltb 4096 (length lens) f.few_polygons, le-ltb 65536 (points_in given) f.few_points)

add_up : (given : List Float) (lens : List ℕ) → adds_up given lens ≡ true → AddUp given lens
unfolding adds_up
add_up given lens e = eqb-true (2 * first_in lens (length lens)) (length given) e

numbers_add_up : (given : List Float) (lens : List ℕ) → AddUp given lens → adds_up given lens ≡ true
unfolding adds_up
numbers_add_up given lens e = eq-eqb (2 * first_in lens (length lens)) (length given) e

pub inside : (width height : Float) (given : List Float) → all_inside width height given ≡ true → Inside width height given
unfolding all_inside numbers_in
inside width height given e =
    let a = both (in_size width && in_size height) _ e in
    let b = both (in_size width) (in_size height) a.0 in
    record { width_in = b.0; height_in = b.1; numbers_in_domain = all_to_at (λ i. in_domain (get_or given i nan)) (length given) a.1 }

all_inside_lem : (width height : Float) (given : List Float) → Inside width height given → all_inside width height given ≡ true
unfolding all_inside numbers_in
all_inside_lem width height given h = rw (h.width_in, h.height_in) (all_to_lem (λ i. in_domain (get_or given i nan)) (length given) h.numbers_in_domain)

has_room_lem : (room : Rooms) (polygons points cells items : ℕ) → Space room polygons points cells items → has_room room polygons points cells items ≡ true
unfolding has_room
has_room_lem room polygons points cells items h =
    simp (
      le-leb _ _ h.points_fit,
      le-leb _ _ h.boxes_fit,
      le-leb _ _ h.polygons_fit,
      le-leb _ _ h.owners_fit,
      lt-ltb _ _ h.starts_fit,
      le-leb _ _ h.items_fit,
      le-leb _ _ h.few_items,
    )

pub plan_status_lem : (p : (Result Site Refusal)) (given : List Float) (lens : List ℕ) (lent : Tables) → status_of p ≡ status_of (outcome_by p given lens lent).answer
unfolding outcome_by
plan_status_lem (Ok s) given lens lent = refl
plan_status_lem (Err n) given lens lent = refl

module _ (width height : Float) (given : List Float) (lens : List ℕ) (room : Rooms) where
  -- ---- 4 and 5
  pub grid_exactly : (g : Grid) → Exactly (grid_checks g given lens room) (status_of (plan_by width height g given lens room))
  unfolding plan_by
  grid_exactly g =
      rw (either status_of (few_cells g.cols g.rows), either status_of (has_room room (length lens) (points_in given) (g.cols * g.rows) (item_count g given lens)))
      (by_true 4 _ _ _ (few_cells g.cols g.rows) refl (leb-true _ _) (le-leb _ _)
      (λ f. by_true 5 _ _ _ (has_room room (length lens) (points_in given) (g.cols * g.rows) (item_count g given lens)) refl
      (space room (length lens) (points_in given) (g.cols * g.rows) (item_count g given lens)) (has_room_lem room (length lens) (points_in given) (g.cols * g.rows) (item_count g given lens))
      (λ h. all_passed)))

  -- ---- 2, 3 and 1 before them
  pub plan_exactly : Exactly (build_checks width height given lens room) (status_of (plan_of width height given lens room))
  unfolding plan_of
  plan_exactly =
      rw (either status_of (too_many given lens), either status_of (adds_up given lens), either status_of (all_inside width height given))
      (by_false 2 _ _ _ (too_many given lens) refl (few given lens) (not_many given lens)
      (λ f. by_true 3 _ _ _ (adds_up given lens) refl (add_up given lens) (numbers_add_up given lens)
      (λ a. by_true 1 _ _ _ (all_inside width height given) refl (inside width height given) (all_inside_lem width height given)
      (λ i. grid_exactly (grid_of width height given lens)))))

-- BUILDING
pub new_exactly : (width height : Float) (given : List Float) (lens : List ℕ) (lent : Tables)
    → Exactly (build_checks width height given lens (rooms_of lent)) (status_of (outcome width height given lens lent).answer)
unfolding outcome
new_exactly width height given lens lent =
    rw (plan_status_lem (plan_of width height given lens (rooms_of lent)) given lens lent) at (plan_exactly width height given lens (rooms_of lent))

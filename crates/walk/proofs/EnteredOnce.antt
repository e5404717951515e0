-- Demand 3 for the ray: whatever a visitor does, the cells that its walk enters are distinct, are cells of the grid, and are at most columns + rows - 1.
-- Each step moves one of column and row by a fixed sign, so `left` falls; it is a number of the cell alone, so no cell comes back.
-- Assumes nothing.
use Rattle.std.proofs.Common.{None, Option, Some}
use mathlib.Core.Path.{◌≡◌, refl, ap, sym, ◌∙◌}
use mathlib.Core.Logic.{⊎_elim}
use mathlib.Core.Bool.{Bool, true, false, cond}
use mathlib.Core.List.{List, [], ◌∷◌, map}
use Prim.Native.Nat.{ℕ, zero, suc, ◌+◌, ◌-◌, ◌*◌, ◌/◌, ◌%◌, ◌≤◌, ◌<◌}
use native.Mathlib.Nat.{le_refl, suc-mul, mul_comm, mul-le-mul_right, mod-eq_of_lt, mul-add-mod_self_right, mul-add-div_right, div-eq_of_lt}
use native.Mathlib.Omega.{arith}
use lib.ListN.{length, length-map}
use lib.Ieee.{Float}
use Rattle.lists.specs.Members.{In, NoDup, All, AllBelow}
use Rattle.lists.proofs.Members.{all_map}
use Rattle.geom.specs.declared.Vec2.{Vec2}
use Rattle.grid.specs.declared.Grid.{Grid}
use Rattle.walk.specs.Clipping.{ray_start}
use Rattle.walk.specs.Steps.{cell_number, step_of, OnGrid, left_of, left}
use Rattle.walk.specs.Tours.{Visitor, Tour, ends_at, onward, tour_in, tour, tour_from, place_cells, ray_tour, ray_cells}
use Rattle.walk.specs.declared.Turn.{Turn}
use Rattle.walk.specs.declared.Turn.TheVariants.{Up, Down, Stay}
use Rattle.walk.specs.declared.Course.{Course}
use Rattle.walk.specs.declared.Place.{Place}
use Rattle.walk.proofs.StepLaws.{moves}
use Rattle.walk.proofs.StartLaws.{start_in}

-- ---- a cell's number tells its column and row
column_of : (n r c : ℕ) → c < n → (r * n + c) % n ≡ c
column_of n r c h = mul-add-mod_self_right r n c ∙ mod-eq_of_lt h

row_of : (n r c : ℕ) → c < n → (r * n + c) / n ≡ r
row_of n r c h = let z : c / n ≡ 0 = div-eq_of_lt h in mul-add-div_right (omega arith) r c ∙ omega arith

module _ (k : Course) where
  same_left : (p q : Place) → OnGrid k p → OnGrid k q → cell_number k p ≡ cell_number k q → left k p ≡ left k q
  unfolding cell_number left
  same_left p q g h e =
      let c : p.col ≡ q.col = sym (column_of k.cols p.row p.col g.col_in) ∙ ap (λ (n : ℕ). n % k.cols) e ∙ column_of k.cols q.row q.col h.col_in in
      let r : p.row ≡ q.row = sym (row_of k.cols p.row p.col g.col_in) ∙ ap (λ (n : ℕ). n / k.cols) e ∙ row_of k.cols q.row q.col h.col_in in
      rw (c, r)

  pub inside : (q : Place) → OnGrid k q → cell_number k q < k.cols * k.rows
  unfolding cell_number
  inside q g =
      let l : suc q.row * k.cols ≤ k.rows * k.cols = mul-le-mul_right k.cols g.row_in in
      let m : suc q.row * k.cols ≡ q.row * k.cols + k.cols = suc-mul q.row k.cols in
      let s : k.cols * k.rows ≡ k.rows * k.cols = mul_comm k.cols k.rows in
      omega (arith, g.col_in)

  -- ---- the places of a walk from p
  -- q is in the grid, with at most n steps left
  abbrev pub Near : ℕ → Place → Type 0
  Near n q = OnGrid k q × (left k q ≤ n)

  pub record Fair (p : Place) (l : List Place) : Type 0 where
    pub near : All (Near (left k p)) l
    pub once : NoDup (map (cell_number k) l)
    pub few : length l ≤ left k p + 1

  -- a cell with more steps left is not among them
  new : (p : Place) (n : ℕ) → OnGrid k p → n < left k p → (l : List Place) → All (Near n) l → In (cell_number k p) (map (cell_number k) l) → ⊥
  new p n g h [] a i = i
  new p n g h (q ∷ l) a i =
      ⊎_elim (λ e. let s = same_left p q g a.0.0 e in omega (arith, s, a.0.1)) (λ j. new p n g h l a.1 j) i

  fair_one : (p : Place) → OnGrid k p → Fair p (p ∷ [])
  fair_one p g = record { near = ((g, le_refl (left k p)), tt); once = ((λ i. i), tt); few = omega arith }

  fair_more : (p q : Place) (l : List Place) → OnGrid k p → step_of k p ≡ Some q → Fair q l → Fair p (p ∷ l)
  fair_more p q l g e f =
      let m = moves k p q e in
      record {
        near = ((g, le_refl (left k p)), all_map (Near (left k q)) (Near (left k p)) (λ r a. (a.0, omega (arith, m.fewer, a.1))) l f.near);
        once = (new p (left k q) g (omega (arith, m.fewer)) l f.near, f.once);
        few = omega (arith, m.fewer, f.few);
      }

  module _ {S : Type 0} (v : Visitor S) where
    fair_by : (p : Place) (s : S) (f : Place → Tour S) (b : Bool) (t : (Option Place)) → OnGrid k p → step_of k p ≡ t
        → ((q : Place) → OnGrid k q → Fair q (f q).places) → Fair p (cond b (onward p s f t) (ends_at p s)).places
    fair_by p s f false t g e h = fair_one p g
    fair_by p s f true None g e h = fair_one p g
    fair_by p s f true (Some q) g e h = fair_more p q (f q).places g e (h q ((moves k p q e).stays g))

    fair_in : (n : ℕ) (p : Place) (s : S) → OnGrid k p → Fair p (tour_in v n k p s).places
    unfolding tour_in
    fair_in zero p s g = fair_one p g
    fair_in (suc n) p s g =
        let t = v.sees k p s in fair_by p t (λ q. tour_in v n k q t) (v.goes k p t) (step_of k p) g refl (λ q h. fair_in n q t h)

    pub tour_fair : (p : Place) (s : S) → OnGrid k p → Fair p (tour v k p s).places
    unfolding tour
    tour_fair p s g = fair_in (left k p) p s g

  axis_few : (i count : ℕ) (d : Turn) → i < count → left_of i count d + 1 ≤ count
  axis_few i count Up h = omega arith
  axis_few i count Down h = omega arith
  axis_few i count Stay h = omega arith

  pub left_few : (p : Place) → OnGrid k p → left k p + 2 ≤ k.cols + k.rows
  unfolding left
  left_few p g = omega (arith, axis_few p.col k.cols k.x.turn g.col_in, axis_few p.row k.rows k.y.turn g.row_in)

-- ---- the theorem
pub record Once (g : Grid) (cells : List ℕ) : Type 0 where
  pub distinct : NoDup cells
  pub few : length cells ≤ g.cols + g.rows - 1
  pub inside : AllBelow (g.cols * g.rows) cells

all_cells : (k : Course) (n m : ℕ) → ((q : Place) → OnGrid k q → cell_number k q < m) → (l : List Place) → All (Near k n) l → AllBelow m (map (cell_number k) l)
all_cells k n m h [] a = tt
all_cells k n m h (q ∷ l) a = (h q a.0.0, all_cells k n m h l a.1)

once_by : {S : Type 0} (v : Visitor S) (g : Grid) (o d : Vec2) (len : Float) (s : S) (t : (Option (Course × Place))) → ray_start g o d len ≡ t
    → Once g (place_cells t (tour_from v t s).places)
once_by v g o d len s None e = record { distinct = tt; few = omega arith; inside = tt }
once_by v g o d len s (Some (k, p)) e =
    let b = start_in g o d len k p e in
    let f = tour_fair k v p s b.on_grid in
    let m : k.cols * k.rows ≡ g.cols * g.rows = rw (b.same_cols, b.same_rows) in
    record {
      distinct = f.once;
      few = rw (length-map (tour v k p s).places (cell_number k)) (omega (arith, f.few, left_few k p b.on_grid, b.same_cols, b.same_rows));
      inside = all_cells k (left k p) (g.cols * g.rows) (λ q h. rw (← m) (inside k q h)) (tour v k p s).places f.near;
    }

pub entered_once : {S : Type 0} (v : Visitor S) (g : Grid) (o d : Vec2) (len : Float) (s : S) → Once g (ray_cells v g o d len s)
unfolding ray_tour ray_cells
entered_once v g o d len s = once_by v g o d len s (ray_start g o d len) refl

counted_by : {S : Type 0} (v : Visitor S) (t : (Option (Course × Place))) (s : S) → length (place_cells t (tour_from v t s).places) ≡ length (tour_from v t s).places
counted_by v None s = refl
counted_by v (Some (k, p)) s = length-map (tour v k p s).places (cell_number k)

-- as many cells as places
pub counted : {S : Type 0} (v : Visitor S) (g : Grid) (o d : Vec2) (len : Float) (s : S) → length (ray_cells v g o d len s) ≡ length (ray_tour v g o d len s).places
unfolding ray_tour ray_cells
counted v g o d len s = counted_by v (ray_start g o d len) s

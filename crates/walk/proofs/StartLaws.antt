-- Every walk begins in a cell of its grid; an axis that stays has its crossing at infinity; and the t where the ray ends is a number if the ray's length is one.
-- Assumes nothing.
use Rattle.std.proofs.Common.{None, Some, Option}
use mathlib.Core.Path.{◌≡◌, refl, ap}
use mathlib.Core.Bool.{Bool, true, false, ◌||◌, cond, false≢true}
use Prim.Native.Nat.{ℕ, ◌-◌, ◌≤◌, ◌<◌}
use native.Mathlib.Nat.{le_refl}
use native.Mathlib.Omega.{arith}
use lib.IntN.{ℤ, pos, negsuc}
use lib.Dec.{ltb, eqb}
use lib.Ieee.{Float, nan, inf, fin, lt, is_nan, to_signed}
use borrow.Author.Tests.{ltb-false, eqb-false}
use Rattle.num.specs.Ops.{◌⊖◌, ◌⊗◌, ◌⊘◌, zero_f, one_f}
use Rattle.num.specs.Num.{abs_of, floor_of, min_of, max_of}
use Rattle.geom.specs.declared.Vec2.{Vec2}
use Rattle.grid.specs.declared.Grid.{Grid}
use Rattle.walk.specs.Clipping.{still, clip_of, in_part, end_of, clip_box_of, clamp_to, index_of, axis_of, set_out_of, on_part, ray_start}
use Rattle.walk.specs.Steps.{OnGrid}
use Rattle.walk.specs.declared.Turn.TheVariants.{Up, Down, Stay}
use Rattle.walk.specs.declared.Axis.{Axis}
use Rattle.walk.specs.declared.Course.{Course}
use Rattle.walk.specs.declared.Place.{Place}
use Rattle.walk.proofs.StepLaws.{Calm}

pub record Begun (g : Grid) (len : Float) (k : Course) (p : Place) : Type 0 where
  pub on_grid : OnGrid k p
  pub same_cols : k.cols ≡ g.cols
  pub same_rows : k.rows ≡ g.rows
  pub calm : is_nan len ≡ false → Calm k p

-- ---- the first cell
clamp_by : (n last : ℕ) (b : Bool) → ltb last n ≡ b → cond b last n ≤ last
clamp_by n last true e = le_refl last
clamp_by n last false e = ltb-false last n e

clamp_few : (i : ℤ) (last : ℕ) → clamp_to i last ≤ last
clamp_few (pos n) last = clamp_by n last _ refl
clamp_few (negsuc n) last = omega arith

index_in : (at : Float) (count : ℕ) → 0 < count → index_of at (count - 1) < count
unfolding index_of
index_in at count h = omega (arith, clamp_few (to_signed 63 (floor_of at)) (count - 1))

-- ---- an axis that stays
far_by : (a b : Bool) (m n x y : Float)
    → let r : Axis = cond a (record { turn = Up; next = m; delta = x }) (cond b (record { turn = Down; next = n; delta = y }) (record { turn = Stay; next = inf false; delta = inf false })) in
    r.turn ≡ Stay → r.next ≡ inf false
far_by true b m n x y e = let z : ◌≡◌ {A = ℕ} 0 1 = cc in absurd (omega arith)
far_by false true m n x y e = let z : ◌≡◌ {A = ℕ} 0 1 = cc in absurd (omega arith)
far_by false false m n x y e = refl

axis_far : (d o from : Float) (i : ℕ) (cell : Float) → (axis_of d o from i cell).turn ≡ Stay → (axis_of d o from i cell).next ≡ inf false
unfolding axis_of
axis_far d o from i cell e = far_by (lt zero_f d) (lt d zero_f) _ _ _ _ e

-- ---- where the ray ends
less_number : (y x : Float) → lt y x ≡ true → is_nan y ≡ false
unfolding lt is_nan
less_number nan x e = absurd (false≢true e)
less_number (inf s) x e = refl
less_number (fin s m d) x e = refl

min_by : (x y : Float) (b : Bool) → lt y x ≡ b → is_nan x ≡ false → is_nan (cond b y (cond (is_nan x) y x)) ≡ false
min_by x y true e h = less_number y x e
min_by x y false e h = rw (h, h)

min_number : (x y : Float) → is_nan x ≡ false → is_nan (min_of x y) ≡ false
unfolding min_of
min_number x y h = min_by x y (lt y x) refl h

abbrev Ends : (Option (Float × Float)) → Type 0
Ends (Some (t0, t1)) = is_nan t1 ≡ false
Ends None = Unit {0}

clip_by : (t0 t1 a b : Float) (x y z : Bool) → is_nan t1 ≡ false
    → Ends (cond x (cond y None (Some (t0, t1))) (cond z (Some ((max_of t0 b), (min_of t1 a))) (Some ((max_of t0 a), (min_of t1 b)))))
clip_by t0 t1 a b true true z h = tt
clip_by t0 t1 a b true false z h = h
clip_by t0 t1 a b false y true h = min_number t1 a h
clip_by t0 t1 a b false y false h = min_number t1 b h

clip_ends : (o d lo hi t0 t1 : Float) → is_nan t1 ≡ false → Ends (clip_of o d lo hi t0 t1)
unfolding clip_of
clip_ends o d lo hi t0 t1 h =
    let a = (lo ⊖ o) ⊗ (one_f ⊘ d) in
    let b = (hi ⊖ o) ⊗ (one_f ⊘ d) in
    clip_by t0 t1 a b (lt (abs_of d) still) (lt o lo || lt hi o) (lt b a) h

in_part_lem : (f : Float → Float → (Option (Float × Float))) → ((t0 t1 : Float) → is_nan t1 ≡ false → Ends (f t0 t1)) → (s : (Option (Float × Float))) → Ends s → Ends (in_part f s)
in_part_lem f h (Some (t0, t1)) e = h t0 t1 e
in_part_lem f h None e = tt

module _ (g : Grid) (o d : Vec2) (len : Float) where
  box_ends : is_nan len ≡ false → Ends (clip_box_of g o d len)
  unfolding clip_box_of
  box_ends h =
      let right = end_of g.origin.x g.cols g.cell in
      let bottom = end_of g.origin.y g.rows g.cell in
      in_part_lem (clip_of o.y d.y g.origin.y bottom) (λ t0 t1 e. clip_ends o.y d.y g.origin.y bottom t0 t1 e)
      (clip_of o.x d.x g.origin.x right zero_f len)
      (clip_ends o.x d.x g.origin.x right zero_f len h)

  -- ---- together
  begun : (a : Course) (b : Place) (k : Course) (p : Place) → ◌≡◌ {A = Option (Course × Place)} (Some (a, b)) (Some (k, p)) → Begun g len a b → Begun g len k p
  begun a b k p e h =
      let w : ◌≡◌ {A = Course × Place} (a, b) (k, p) = cc in
      let x : a ≡ k = ap (λ (z : Course × Place). z.0) w in
      let y : b ≡ p = ap (λ (z : Course × Place). z.1) w in
      rw (← x, ← y) h

  set_out_in : (t0 t1 : Float) (k : Course) (p : Place) → 0 < g.cols → 0 < g.rows → (is_nan len ≡ false → is_nan t1 ≡ false) → set_out_of g o d t0 t1 ≡ Some (k, p)
      → Begun g len k p
  unfolding set_out_of
  set_out_in t0 t1 k p c r h e =
      begun _ _ k p e
      (record {
        on_grid = record { col_in = index_in _ g.cols c; row_in = index_in _ g.rows r };
        same_cols = refl;
        same_rows = refl;
        calm = λ n. record { x_far = λ s. axis_far _ _ _ _ _ s; y_far = λ s. axis_far _ _ _ _ _ s; ends = h n };
      })

  never : {A : Type 0} (k : Course) (p : Place) → ◌≡◌ {A = Option (Course × Place)} None (Some (k, p)) → A
  never k p e = let z : ◌≡◌ {A = ℕ} 0 1 = cc in absurd (omega arith)

  part_in : (s : (Option (Float × Float))) (k : Course) (p : Place) → 0 < g.cols → 0 < g.rows → (is_nan len ≡ false → Ends s) → on_part (set_out_of g o d) s ≡ Some (k, p) → Begun g len k p
  part_in None k p c r h e = never k p e
  part_in (Some (t0, t1)) k p c r h e = by (lt t1 t0) e
    where
      by : (b : Bool) → cond b None (set_out_of g o d t0 t1) ≡ Some (k, p) → Begun g len k p
      by true e = never k p e
      by false e = set_out_in t0 t1 k p c r h e

  start_by : (k : Course) (p : Place) (a b : Bool) → eqb g.cols 0 ≡ a → eqb g.rows 0 ≡ b
      → cond (a || b) None (on_part (set_out_of g o d) (clip_box_of g o d len)) ≡ Some (k, p) → Begun g len k p
  start_by k p true b x y e = never k p e
  start_by k p false true x y e = never k p e
  start_by k p false false x y e =
      let c : g.cols ≡ 0 → ⊥ = eqb-false g.cols 0 x in
      let r : g.rows ≡ 0 → ⊥ = eqb-false g.rows 0 y in
      part_in (clip_box_of g o d len) k p (omega arith) (omega arith) box_ends e

  pub start_in : (k : Course) (p : Place) → ray_start g o d len ≡ Some (k, p) → Begun g len k p
  unfolding ray_start
  start_in k p e = start_by k p (eqb g.cols 0) (eqb g.rows 0) refl refl e

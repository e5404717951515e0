-- A step that goes on leaves the walk one step less, and leads to a cell of the grid; an axis that stays keeps its crossing.
-- Assumes nothing.
use Rattle.std.proofs.Common.{None, Some, Option}
use mathlib.Core.Path.{◌≡◌, refl}
use mathlib.Core.Bool.{Bool, true, false, cond}
use Prim.Native.Nat.{ℕ, suc, ◌+◌, ◌-◌, ◌<◌}
use native.Mathlib.Omega.{arith}
use lib.Dec.{ltb}
use lib.Ieee.{Float, inf, lt, le, is_nan}
use borrow.Author.Tests.{ltb-true}
use Rattle.num.specs.Ops.{◌⊕◌}
use Rattle.walk.specs.Steps.{exit_of, moved_to, along_x, along_y, step_of, OnGrid, left_of, left}
use Rattle.walk.specs.declared.Turn.{Turn}
use Rattle.walk.specs.declared.Turn.TheVariants.{Up, Down, Stay}
use Rattle.walk.specs.declared.Course.{Course}
use Rattle.walk.specs.declared.Place.{Place}

-- ---- the two ways to the next place
module _ (k : Course) (p : Place) (exit : Float) (e : exit ≡ exit_of k p) (t : le k.t1 exit ≡ false) (i : (Option ℕ)) where
  pub by_x : (c : ℕ) → lt p.next_x p.next_y ≡ true → i ≡ moved_to p.col k.cols k.x.turn → i ≡ Some c
      → Some (record { col = c; row = p.row; next_x = p.next_x ⊕ k.x.delta; next_y = p.next_y; enter = exit }) ≡ step_of k p
  unfolding step_of
  by_x c u m a = rw (← e, t, u, ← m, a) (rw e)

  pub by_y : (r : ℕ) → lt p.next_x p.next_y ≡ false → i ≡ moved_to p.row k.rows k.y.turn → i ≡ Some r
      → Some (record { col = p.col; row = r; next_x = p.next_x; next_y = p.next_y ⊕ k.y.delta; enter = exit }) ≡ step_of k p
  unfolding step_of
  by_y r u m a = rw (← e, t, u, ← m, a) (rw e)

-- ---- one axis
up_by : (i count j : ℕ) (b : Bool) → ltb (i + 1) count ≡ b → cond b (Some (i + 1)) None ≡ Some j → (suc (count - (j + 1)) ≡ count - (i + 1)) × (j < count)
up_by i count j true t e = let k : i + 1 ≡ j = cc in let h : i + 1 < count = ltb-true _ _ t in (omega arith, omega arith)
up_by i count j false t e = let z : ◌≡◌ {A = ℕ} 0 1 = cc in absurd (omega arith)

down_by : (i j : ℕ) (b : Bool) → ltb 0 i ≡ b → cond b (Some (i - 1)) None ≡ Some j → suc j ≡ i
down_by i j true t e = let k : i - 1 ≡ j = cc in let h : 0 < i = ltb-true _ _ t in omega arith
down_by i j false t e = let z : ◌≡◌ {A = ℕ} 0 1 = cc in absurd (omega arith)

axis_fewer : (i count j : ℕ) (d : Turn) → moved_to i count d ≡ Some j → suc (left_of j count d) ≡ left_of i count d
unfolding moved_to
axis_fewer i count j Up e = (up_by i count j _ refl e).0
axis_fewer i count j Down e = down_by i j _ refl e
axis_fewer i count j Stay e = let z : ◌≡◌ {A = ℕ} 0 1 = cc in absurd (omega arith)

axis_stays : (i count j : ℕ) (d : Turn) → i < count → moved_to i count d ≡ Some j → j < count
unfolding moved_to
axis_stays i count j Up h e = (up_by i count j _ refl e).1
axis_stays i count j Down h e = let l : suc j ≡ i = down_by i j _ refl e in omega arith
axis_stays i count j Stay h e = let z : ◌≡◌ {A = ℕ} 0 1 = cc in absurd (omega arith)

axis_turns : (i count j : ℕ) (d : Turn) → moved_to i count d ≡ Some j → d ≡ Stay → ⊥
unfolding moved_to
axis_turns i count j d m s = let z : ◌≡◌ {A = ℕ} 0 1 = cc (rw s at m) in omega arith

-- ---- both axes
-- an axis that stays has its crossing at infinity, and the ray ends somewhere
pub record Calm (k : Course) (p : Place) : Type 0 where
  pub x_far : k.x.turn ≡ Stay → p.next_x ≡ inf false
  pub y_far : k.y.turn ≡ Stay → p.next_y ≡ inf false
  pub ends : is_nan k.t1 ≡ false

pub record Moves (k : Course) (p q : Place) : Type 0 where
  pub fewer : suc (left k q) ≡ left k p
  pub stays : OnGrid k p → OnGrid k q
  pub calms : Calm k p → Calm k q

never : {A : Type 0} (q : Place) → None ≡ Some q → A
never q e = let z : ◌≡◌ {A = ℕ} 0 1 = cc in absurd (omega arith)

moves_x : (k : Course) (p q : Place) (i : (Option ℕ)) → moved_to p.col k.cols k.x.turn ≡ i → along_x k p i ≡ Some q → Moves k p q
unfolding left
moves_x k p q None m e = never q e
moves_x k p q (Some c) m e =
    let l = axis_fewer p.col k.cols c k.x.turn m in
    let f : record { col = c; row = p.row; next_x = p.next_x ⊕ k.x.delta; next_y = p.next_y; enter = exit_of k p } ≡ q = cc in
    rw (← f)
    (record {
      fewer = omega (arith, l);
      stays = λ g. record { col_in = axis_stays p.col k.cols c k.x.turn g.col_in m; row_in = g.row_in };
      calms = λ h. record { x_far = λ s. absurd (axis_turns p.col k.cols c k.x.turn m s); y_far = h.y_far; ends = h.ends };
    })

moves_y : (k : Course) (p q : Place) (i : (Option ℕ)) → moved_to p.row k.rows k.y.turn ≡ i → along_y k p i ≡ Some q → Moves k p q
unfolding left
moves_y k p q None m e = never q e
moves_y k p q (Some r) m e =
    let l = axis_fewer p.row k.rows r k.y.turn m in
    let f : record { col = p.col; row = r; next_x = p.next_x; next_y = p.next_y ⊕ k.y.delta; enter = exit_of k p } ≡ q = cc in
    rw (← f)
    (record {
      fewer = omega (arith, l);
      stays = λ g. record { col_in = g.col_in; row_in = axis_stays p.row k.rows r k.y.turn g.row_in m };
      calms = λ h. record { x_far = h.x_far; y_far = λ s. absurd (axis_turns p.row k.rows r k.y.turn m s); ends = h.ends };
    })

moves_by : (k : Course) (p q : Place) (a b : Bool)
    → cond a None (cond b (along_x k p (moved_to p.col k.cols k.x.turn)) (along_y k p (moved_to p.row k.rows k.y.turn))) ≡ Some q
    → Moves k p q
moves_by k p q true b e = never q e
moves_by k p q false true e = moves_x k p q _ refl e
moves_by k p q false false e = moves_y k p q _ refl e

pub moves : (k : Course) (p q : Place) → step_of k p ≡ Some q → Moves k p q
unfolding step_of
moves k p q e = moves_by k p q (le k.t1 (exit_of k p)) (lt p.next_x p.next_y) e

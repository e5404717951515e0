-- `polygon_at` in words: the id that it finds is in the point's cell and passes both tests, and nothing higher does; where it finds nobody, nothing passes.
-- Assumes nothing.
use Rattle.std.proofs.Common.{None, Option, Some}
use mathlib.Core.Path.{◌≡◌, refl, sym, ◌∙◌}
use mathlib.Core.Logic.{◌⊎◌, inl, inr, ⊎_elim}
use mathlib.Core.Bool.{Bool, true, false, cond}
use mathlib.Core.List.{List, [], ◌∷◌, foldl}
use Prim.Native.Nat.{ℕ, ◌≤◌, ◌<◌}
use native.Mathlib.Nat.{le_refl}
use native.Mathlib.Omega.{arith}
use lib.Dec.{ltb}
use lib.Ieee.{Float}
use borrow.Author.Tests.{ltb-true, ltb-false}
use Rattle.lists.specs.Lists.{filter}
use Rattle.lists.specs.Members.{In}
use Rattle.lists.proofs.Counting.{filter_in, in_filter}
use Rattle.geom.specs.declared.Vec2.{Vec2}
use Rattle.grid.specs.declared.Grid.{Grid}
use Rattle.grid.specs.Query.{items_at}
use Rattle.sight.specs.Holding.{holds_point, higher_of, highest, polygon_at_of}

-- what is highest among ids: one of them, with none above it; or there are none
abbrev pub Highest : List ℕ → (Option ℕ) → Type 0
Highest ids (Some k) = In k ids × ((x : ℕ) → In x ids → x ≤ k)
Highest ids None = (x : ℕ) → In x ids → ⊥

-- v is the higher of w and x
record Higher (w : (Option ℕ)) (x : ℕ) (v : (Option ℕ)) : Type 0 where
  pub one : (k : ℕ) → v ≡ Some k → (w ≡ Some k) ⊎ (k ≡ x)
  pub top : ℕ
  pub is_top : v ≡ Some top
  pub over : x ≤ top
  pub above : (j : ℕ) → w ≡ Some j → j ≤ top

same_id : (j k : ℕ) → Some j ≡ Some k → j ≡ k
same_id j k e = cc

not_nobody : (k : ℕ) → Some k ≡ None → ⊥
not_nobody k e = let z : ◌≡◌ {A = ℕ} 0 1 = cc in omega arith

higher_by : (j x : ℕ) (b : Bool) → ltb j x ≡ b → Higher (Some j) x (cond b (Some x) (Some j))
higher_by j x true t =
    let h : j < x = ltb-true j x t in
    record {
      one = λ k e. inr (sym (same_id x k e));
      top = x;
      is_top = refl;
      over = le_refl x;
      above = λ i e. omega (arith, same_id j i e, h);
    }
higher_by j x false t =
    let h : x ≤ j = ltb-false j x t in
    record { one = λ k e. inl e; top = j; is_top = refl; over = h; above = λ i e. omega (arith, same_id j i e) }

higher_is : (w : (Option ℕ)) (x : ℕ) → Higher w x (higher_of w x)
unfolding higher_of
higher_is (Some j) x = higher_by j x _ refl
higher_is None x =
    record { one = λ k e. inr (sym (same_id x k e)); top = x; is_top = refl; over = le_refl x; above = λ j e. absurd (not_nobody j (sym e)) }

-- r is the highest of w and the ids
abbrev Top : (Option ℕ) → List ℕ → (Option ℕ) → Type 0
Top w ids (Some k) = ((w ≡ Some k) ⊎ In k ids) × ((x : ℕ) → In x ids → x ≤ k) × ((j : ℕ) → w ≡ Some j → j ≤ k)
Top w ids None = (w ≡ None) × ((x : ℕ) → In x ids → ⊥)

top_more : (w v : (Option ℕ)) (x : ℕ) (ids : List ℕ) (r : (Option ℕ)) → Higher w x v → Top v ids r → Top w (x ∷ ids) r
top_more w v x ids (Some k) h t =
    let m : h.top ≤ k = t.2 h.top h.is_top in (
      ⊎_elim (λ e. ⊎_elim (λ q. inl q) (λ q. inr (inl q)) (h.one k e)) (λ i. inr (inr i)) t.0,
      (λ y i. ⊎_elim (λ (e : y ≡ x). omega (arith, e, h.over, m)) (λ j. t.1 y j) i),
      λ j e. omega (arith, h.above j e, m),
    )
top_more w v x ids None h t = absurd (not_nobody h.top (sym h.is_top ∙ t.0))

top_of : (w : (Option ℕ)) (ids : List ℕ) → Top w ids (foldl higher_of w ids)
top_of (Some k) [] = (inl refl, (λ x i. absurd i), λ j e. omega (arith, same_id k j e))
top_of None [] = (refl, λ x i. i)
top_of w (x ∷ ids) = top_more w (higher_of w x) x ids (foldl higher_of (higher_of w x) ids) (higher_is w x) (top_of (higher_of w x) ids)

highest_by : (ids : List ℕ) (r : (Option ℕ)) → Top None ids r → Highest ids r
highest_by ids (Some k) t = (⊎_elim (λ e. absurd (not_nobody k (sym e))) (λ i. i) t.0, t.1)
highest_by ids None t = t.1

pub highest_is : (ids : List ℕ) → Highest ids (highest ids)
unfolding highest
highest_is ids = highest_by ids (foldl higher_of None ids) (top_of None ids)

-- THE POLYGON AT p, by its tests
abbrev pub TopMost : (ℕ → Bool) → List ℕ → (Option ℕ) → Type 0
TopMost holds ids (Some k) = In k ids × (holds k ≡ true) × ((x : ℕ) → In x ids → holds x ≡ true → x ≤ k)
TopMost holds ids None = (x : ℕ) → In x ids → holds x ≡ true → ⊥

top_most_by : (holds : ℕ → Bool) (ids : List ℕ) (r : (Option ℕ)) → Highest (filter holds ids) r → TopMost holds ids r
top_most_by holds ids (Some k) h = let i = filter_in holds k ids h.0 in (i.0, i.1, λ x j e. h.1 x (in_filter holds x ids j e))
top_most_by holds ids None h = λ x j e. h x (in_filter holds x ids j e)

pub top_most
    : (g : Grid) (points boxes : List Float) (polygons starts items : List ℕ) (p : Vec2)
    → TopMost (holds_point points boxes polygons p) (items_at g p starts items) (polygon_at_of g points boxes polygons starts items p)
unfolding polygon_at_of
top_most g points boxes polygons starts items p =
    top_most_by (holds_point points boxes polygons p) (items_at g p starts items) (highest (filter (holds_point points boxes polygons p) (items_at g p starts items)))
    (highest_is (filter (holds_point points boxes polygons p) (items_at g p starts items)))

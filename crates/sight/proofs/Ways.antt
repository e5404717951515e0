-- The ways through the functions of `sight` that have branches, over plain values: tests and callees' answers are hypotheses. Assumes nothing.
use Rattle.std.proofs.Common.{None, Option, Some}
use mathlib.Core.Path.{◌≡◌, refl, sym, ap, ◌∙◌}
use mathlib.Core.Logic.{⊎_elim}
use mathlib.Core.Bool.{Bool, true, false}
use mathlib.Core.List.{List, [], ◌∷◌}
use Prim.Native.Nat.{ℕ, ◌+◌, ◌≤◌, ◌<◌, max, min}
use native.Mathlib.Numerals.{add-one}
use native.Mathlib.Omega.{arith}
use lib.Dec.{eqb}
use lib.Ieee.{Float, lt, eq}
use borrow.Author.Tests.{eq-eqb, ne_eqb, lt-ltb, le-ltb}
use Rattle.std.specs.List.{list_any}
use Rattle.lists.specs.Lists.{filter}
use Rattle.lists.specs.Members.{holds}
use Rattle.lists.proofs.Cases.{lt_or_le, eq_or_ne}
use Rattle.geom.specs.declared.Vec2.{Vec2}
use Rattle.geom.specs.declared.Aabb.{Aabb}
use Rattle.geom.specs.Box.{corners, corner_of, contains_of}
use Rattle.geom.specs.Segment.{ray_segment_of}
use Rattle.geom.specs.Ring.{corner_before, point_in_polygon_of}
use Rattle.grid.specs.declared.Grid.{Grid}
use Rattle.grid.specs.Boxes.{box_at}
use Rattle.grid.specs.Query.{items_at}
use Rattle.site.specs.Tables.{first_of, verts_of}
use Rattle.sight.specs.Slabs.{ray_hits_aabb_of}
use Rattle.sight.specs.Holding.{holds_point, higher_of, highest, polygon_at_of}
use Rattle.sight.specs.Casting.{Rule, edge_number, level_of, nearer_of, edges_up_to, edges_met, pushed, item_seen}
use Rattle.sight.specs.declared.Ray.{Ray}
use Rattle.sight.specs.declared.Best.{Best}
use Rattle.sight.specs.declared.Recent.{Recent}
use Rattle.sight.specs.declared.Look.{Look}
use Rattle.site.specs.Hits.{hit_at}
use Rattle.site.specs.declared.RayHit.{RayHit}

-- ---- `holds_point`
module _ (points boxes : List Float) (polygons : List ℕ) (p : Vec2) (id : ℕ) (b : Aabb) (r : Bool) (is_box : b ≡ box_at boxes id) (is_test : r ≡ contains_of b p) where
  pub box_without : r ≡ false → false ≡ holds_point points boxes polygons p id
  unfolding holds_point
  box_without e = let k : contains_of (box_at boxes id) p ≡ false = cc in rw k

  pub box_with : r ≡ true → (v : List Float) (s : Bool) → v ≡ verts_of points polygons id → s ≡ point_in_polygon_of p v → s ≡ holds_point points boxes polygons p id
  unfolding holds_point
  box_with e v s f g = let k : contains_of (box_at boxes id) p ≡ true = cc in rw k (g ∙ ap (point_in_polygon_of p) f)

-- ---- `polygon_at`
pub in_cell
    : (g : Grid) (points boxes : List Float) (polygons starts items : List ℕ) (p : Vec2) (ids : List ℕ) (w : (Option ℕ))
    → w ≡ highest (filter (holds_point points boxes polygons p) ids) → ids ≡ items_at g p starts items → w ≡ polygon_at_of g points boxes polygons starts items p
unfolding polygon_at_of
in_cell g points boxes polygons starts items p ids w e f = rw (← f) e

-- ---- `higher`
module _ (w : (Option ℕ)) (id : ℕ) where
  pub the_higher : (k : ℕ) → w ≡ Some k → Some (max k id) ≡ higher_of w id
  unfolding higher_of
  the_higher k e = rw e (sym (⊎_elim
      (λ l. let m : max k id ≡ id = omega arith in rw (lt-ltb k id l, m))
      (λ l. let m : max k id ≡ k = omega arith in rw (le-ltb k id l, m))
      (lt_or_le k id)))

  pub is_first_lem : w ≡ None → Some id ≡ higher_of w id
  unfolding higher_of
  is_first_lem e = rw e

-- ---- `level`
module _ (mode : ℕ) (b : Best) (e : ℕ) where
  pub level_rust : mode ≡ 0 → b ≡ level_of mode b e
  level_rust z = rw (eq-eqb mode 0 z)

  module _ (z : mode ≡ 0 → ⊥) where
    pub level_lower : (h : RayHit) → b.hit ≡ Some h → e < h.edge → record { t = b.t; hit = hit_at h.t e } ≡ level_of mode b e
    level_lower h is l = rw (ne_eqb mode 0 z, is, lt-ltb e h.edge l)

    pub level_not : (h : RayHit) → b.hit ≡ Some h → h.edge ≤ e → b ≡ level_of mode b e
    level_not h is l = rw (ne_eqb mode 0 z, is, le-ltb e h.edge l)

    -- the best hit, with another edge
    abbrev with_hit : Option RayHit → Best
    with_hit x = record { t = b.t; hit = x }

    pub level_least : (h : RayHit) → b.hit ≡ Some h → record { t = b.t; hit = hit_at h.t (min e h.edge) } ≡ level_of mode b e
    level_least h is = ⊎_elim
        (λ l. let m : min e h.edge ≡ e = omega arith in rw m (level_lower h is l))
        (λ l. let m : min e h.edge ≡ h.edge = omega arith in rw m (ap (λ (x : Option RayHit). with_hit x) (sym is) ∙ level_not h is l))
        (lt_or_le e h.edge)

    pub level_miss : b.hit ≡ None → b ≡ level_of mode b e
    level_miss is = rw (ne_eqb mode 0 z, is)

-- ---- `nearer`
module _ (mode : ℕ) (b : Best) (m : (Option Float)) (e : ℕ) where
  pub nearer_hit : (t : Float) (n : ℕ) → m ≡ Some t → lt t b.t ≡ true → n ≡ e → record { t = t; hit = hit_at t n } ≡ nearer_of mode b m e
  unfolding nearer_of
  nearer_hit t n is h en = rw (is, h, en)

  pub nearer_level : (t : Float) {n : ℕ} {r : Best} → m ≡ Some t → lt t b.t ≡ false → eq t b.t ≡ true → n ≡ e → r ≡ level_of mode b n → r ≡ nearer_of mode b m e
  unfolding nearer_of
  nearer_level t is h q en er = rw (is, h, q, ← en) er

  pub nearer_far : (t : Float) → m ≡ Some t → lt t b.t ≡ false → eq t b.t ≡ false → b ≡ nearer_of mode b m e
  unfolding nearer_of
  nearer_far t is h q = rw (is, h, q)

  pub nearer_miss : m ≡ None → b ≡ nearer_of mode b m e
  unfolding nearer_of
  nearer_miss is = rw is

-- ---- `test_edges`
pub no_edges : (rule : Rule) (ray : Ray) (ring : List Float) (first : ℕ) (b : Best) → corners ring ≡ 0 → b ≡ edges_met rule ray ring first b
unfolding edges_met edges_up_to
no_edges rule ray ring first b e = rw e

pub next_edge
    : (rule : Rule) (ray : Ray) (ring : List Float) (first : ℕ) (b₀ b b' : Best) (prev k : ℕ) (a c : Vec2) (m : (Option Float))
    → b ≡ edges_up_to rule ray ring first b₀ k → prev ≡ corner_before (corners ring) k → a ≡ corner_of ring prev → c ≡ corner_of ring k
    → m ≡ ray_segment_of ray.o ray.d a c → b' ≡ rule b m (edge_number first prev) → b' ≡ edges_up_to rule ray ring first b₀ (k + 1)
unfolding edges_up_to
next_edge rule ray ring first b₀ b b' prev k a c m eb ep ea ec em e = rw add-one (e ∙ rw (em, eb, ea, ec, ep))

-- ---- `Recent::has`
eqb_turned : (x y : ℕ) → eqb y x ≡ eqb x y
eqb_turned x y = ⊎_elim (λ e. rw e) (λ n. rw (ne_eqb x y n, ne_eqb y x (λ e. n (sym e)))) (eq_or_ne x y)

pub any_holds : (x : ℕ) (l : List ℕ) → list_any (λ y. eqb y x) l ≡ holds x l
any_holds x [] = refl
any_holds x (y ∷ l) = rw (eqb_turned x y, any_holds x l)

-- ---- `test_item`
module _ (rule : Rule) (ray : Ray) (points boxes : List Float) (polygons : List ℕ) (s : Look) (id : ℕ) (lately : Bool) (is_lately : lately ≡ holds id s.recent.ids) where
  pub item_lately : lately ≡ true → s ≡ item_seen rule ray points boxes polygons s id
  unfolding item_seen
  item_lately e = let k : holds id s.recent.ids ≡ true = cc in rw k

  module _ (new : lately ≡ false) (r : Recent) (is_pushed : r ≡ pushed s.recent id) (b : Aabb) (t : Bool) (is_box : b ≡ box_at boxes id) (is_test : t ≡ ray_hits_aabb_of ray.o ray.inv b s.best.t) where
    pub item_passed : t ≡ false → record { best = s.best; recent = r } ≡ item_seen rule ray points boxes polygons s id
    unfolding item_seen
    item_passed e =
        let k : holds id s.recent.ids ≡ false = cc in
        let h : ray_hits_aabb_of ray.o ray.inv (box_at boxes id) s.best.t ≡ false = cc in
        rw (k, h, is_pushed)

    pub item_tested : t ≡ true → (v : List Float) (f : ℕ) (n : Best) → v ≡ verts_of points polygons id → f ≡ first_of polygons id → n ≡ edges_met rule ray v f s.best
        → record { best = n; recent = r } ≡ item_seen rule ray points boxes polygons s id
    unfolding item_seen
    item_tested e v f n ev ef en =
        let k : holds id s.recent.ids ≡ false = cc in
        let h : ray_hits_aabb_of ray.o ray.inv (box_at boxes id) s.best.t ≡ true = cc in
        rw (k, h, is_pushed, en, ev, ef)

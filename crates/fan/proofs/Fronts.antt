-- Every front edge of a scan is an edge of a listed polygon, by its number, and faces the post; and no event of it is a side. Assumes nothing.
use Rattle.std.proofs.Common.{None, Option, Some}
use mathlib.Core.Path.{◌≡◌, refl}
use mathlib.Core.Logic.{◌⊎◌, inl, inr, ⊎_elim}
use mathlib.Core.Bool.{Bool, true, false, cond, ◌||◌}
use mathlib.Core.List.{List, [], ◌∷◌, ◌++◌}
use Rattle.std.specs.Prelude.{Some, None}
use Prim.Native.Nat.{ℕ, zero, suc, ◌+◌, ◌%◌, ◌≤◌, ◌<◌}
use native.Mathlib.Nat.{mod-lt}
use native.Mathlib.Omega.{arith}
use lib.Ieee.{Float, le}
use Rattle.num.specs.Ops.{zero_f}
use Rattle.lists.specs.Members.{In, All}
use Rattle.lists.proofs.Members.{all_append}
use Rattle.geom.specs.declared.Vec2.{Vec2}
use Rattle.geom.specs.Segment.{clip_segment_to_disk_of}
use Rattle.site.specs.Tables.{first_of, len_of}
use Rattle.cone.specs.declared.View.{View}
use Rattle.room.specs.declared.LocalEdge.{LocalEdge}
use Rattle.room.specs.declared.Event.{Event}
use Rattle.room.specs.Constants.{no_vertex}
use Rattle.fan.specs.Sides.{facing, start_of, stop_of, rel_of, end_at, end_of, part_of, clipped_of, in_range, front_of, found_of}
use Rattle.fan.specs.Fan.{Fanned, fanned, nothing, both, end_fan, seen_fan, side_fan, side_at, sides_fan, is_far, polygon_fan, fan_of}
use Rattle.fan.specs.Fronts.{IsFront, IsEnd}

-- ---- one edge

-- what holds of every record that bears the edge's number, where the edge faces the post
module _ (P : LocalEdge → Type 0) (v : View) (a b : Vec2) (i j : ℕ) where
  clip_edges : (s : (Option (Float × Float))) → ((e : LocalEdge) → e.edge ≡ i → P e) → All P (seen_fan (in_range v a b i j s)).edges
  unfolding both clipped_of part_of
  clip_edges (Some (t0, t1)) h = (h _ refl, tt)
  clip_edges None h = tt

  side_edges : (le zero_f (facing v.o a b) ≡ false → (e : LocalEdge) → e.edge ≡ i → P e) → All P (side_fan (found_of v a b i j)).edges
  unfolding both side_fan found_of front_of
  side_edges h = by (le zero_f (facing v.o a b)) refl
    where
      by : (t : Bool) → le zero_f (facing v.o a b) ≡ t → All P (seen_fan (cond t None (in_range v a b i j (clip_segment_to_disk_of a b v.o v.r)))).edges
      by true e = tt
      by false e = clip_edges (clip_segment_to_disk_of a b v.o v.r) (h e)

-- what holds of every event at one of the edge's corners, or at none
module _ (P : Event → Type 0) (v : View) (a b : Vec2) (i j : ℕ) (h : (e : Event) → e.side ≡ false → (e.vertex ≡ no_vertex) ⊎ (e.vertex ≡ i) ⊎ (e.vertex ≡ j) → P e) where
  end_events : (angle : Float) (corner : Bool) (x : ℕ) → (x ≡ i) ⊎ (x ≡ j) → All P (end_fan (end_of v angle corner x)).events
  unfolding end_of
  end_events angle corner x w = held (v.full || le angle v.fov) (by corner)
    where
      by : (t : Bool) → P (end_at angle t x)
      by true = h _ refl (inr w)
      by false = h _ refl (inl refl)

      held : {e : Event} (t : Bool) → P e → All P (end_fan (cond t (Some e) None)).events
      held true p = (p, tt)
      held false p = tt

  clip_events : (s : (Option (Float × Float))) → All P (seen_fan (in_range v a b i j s)).events
  unfolding both clipped_of
  clip_events (Some (t0, t1)) =
      all_append P (end_fan (end_of v (rel_of v (start_of a b t0)) (le t0 zero_f) i)).events _
      (end_events (rel_of v (start_of a b t0)) (le t0 zero_f) i (inl refl)) (end_events (rel_of v (stop_of a b t1)) _ j (inr refl))
  clip_events None = tt

  side_events : All P (side_fan (found_of v a b i j)).events
  unfolding both side_fan found_of front_of
  side_events = by (le zero_f (facing v.o a b))
    where
      by : (t : Bool) → All P (seen_fan (cond t None (in_range v a b i j (clip_segment_to_disk_of a b v.o v.r)))).events
      by true = tt
      by false = clip_events (clip_segment_to_disk_of a b v.o v.r)

-- ---- all edges

-- `get` takes one of the lists out; what holds of it at every edge of every polygon of the list holds of the whole
module _ {A : Type 0} (get : Fanned → List A) (empty : (n : ℕ) → get (fanned n [] [] false) ≡ []) (joins : (f g : Fanned) → get (both f g) ≡ get f ++ get g)
    (P : A → Type 0) (v : View) (points boxes : List Float) (polygons : List ℕ) where
  none : (n : ℕ) → All P (get (fanned n [] [] false))
  none n = rw (empty n) tt

  two : (f g : Fanned) → All P (get f) → All P (get g) → All P (get (both f g))
  two f g p q = rw (joins f g) (all_append P (get f) (get g) p q)

  sides_all : (first n m : ℕ) → ((i : ℕ) → i < m → All P (get (side_fan (side_at v points first n i)))) → All P (get (sides_fan v points first n m))
  unfolding sides_fan
  sides_all first n zero h = none 0
  sides_all first n (suc m) h = two _ _ (sides_all first n m (λ i l. h i (omega arith))) (h m (omega arith))

  polygon_all : (id : ℕ) → ((i : ℕ) → i < len_of polygons id → All P (get (side_fan (side_at v points (first_of polygons id) (len_of polygons id) i))))
      → All P (get (polygon_fan v points boxes polygons id))
  unfolding polygon_fan
  polygon_all id h = by (is_far v boxes id)
    where
      by : (t : Bool) → All P (get (cond t nothing (both (fanned 1 [] [] false) (sides_fan v points (first_of polygons id) (len_of polygons id) (len_of polygons id)))))
      by true = none 0
      by false = two _ _ (none 1) (sides_all (first_of polygons id) (len_of polygons id) (len_of polygons id) h)

  fan_all : (ids : List ℕ) → ((id : ℕ) → In id ids → (i : ℕ) → i < len_of polygons id → All P (get (side_fan (side_at v points (first_of polygons id) (len_of polygons id) i))))
      → All P (get (fan_of v points boxes polygons ids))
  unfolding fan_of
  fan_all [] h = none 0
  fan_all (id ∷ ids) h = two _ _ (polygon_all id (h id (inl refl))) (fan_all ids (λ x l. h x (inr l)))

module _ (v : View) (points boxes : List Float) (polygons ids : List ℕ) where
  -- every front edge faces the post
  pub fronts : All (IsFront v points polygons ids) (fan_of v points boxes polygons ids).edges
  unfolding side_at both
  fronts =
      fan_all (λ g. g.edges) (λ n. refl) (λ f g. refl) (IsFront v points polygons ids) v points boxes polygons ids
      (λ id l i h. side_edges (IsFront v points polygons ids) v _ _ (first_of polygons id + i) (first_of polygons id + (i + 1) % len_of polygons id)
      (λ t e q. record { polygon = id; i = i; listed = l; below = h; number = q; faces = rw q t }))

  -- where the polygons' points are numbered below m, so are the front edges, and the corners of the events
  module _ (m : ℕ) (inside : (id : ℕ) → In id ids → first_of polygons id + len_of polygons id ≤ m) where
    pub numbers_below : All (λ e. e.edge < m) (fan_of v points boxes polygons ids).edges
    unfolding side_at both
    numbers_below =
        fan_all (λ g. g.edges) (λ n. refl) (λ f g. refl) (λ e. e.edge < m) v points boxes polygons ids
        (λ id l i h. side_edges (λ e. e.edge < m) v _ _ (first_of polygons id + i) (first_of polygons id + (i + 1) % len_of polygons id)
        (λ t e q. omega (arith, q, h, inside id l)))

    pub ends_below : All (IsEnd m) (fan_of v points boxes polygons ids).events
    unfolding side_at both
    ends_below =
        fan_all (λ g. g.events) (λ n. refl) (λ f g. refl) (IsEnd m) v points boxes polygons ids
        (λ id l i h. side_events (IsEnd m) v _ _ (first_of polygons id + i) (first_of polygons id + (i + 1) % len_of polygons id)
        (λ e s w. record {
          no_side = s;
          vertex = ⊎_elim inl
              (λ u. inr (⊎_elim (λ q. omega (arith, q, h, inside id l)) (λ q. omega (arith, q, inside id l, mod-lt (i + 1) (positive i (len_of polygons id) h))) u)) w;
        }))
      where
        positive : (i n : ℕ) → i < n → 0 < n
        positive i n h = omega arith

  -- no event is a side
  pub no_sides : All (λ e. e.side ≡ false) (fan_of v points boxes polygons ids).events
  unfolding side_at both
  no_sides =
      fan_all (λ g. g.events) (λ n. refl) (λ f g. refl) (λ e. e.side ≡ false) v points boxes polygons ids
      (λ id l i h. side_events (λ e. e.side ≡ false) v _ _ (first_of polygons id + i) (first_of polygons id + (i + 1) % len_of polygons id) (λ e s w. s))

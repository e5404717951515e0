-- A hit names an edge of a polygon that the walk met: where the edges of every polygon in the grid's cells have numbers below n, so has the hit, in every mode. On sound tables n is
-- the number of points (crate `scene`, proofs/Seen.antt), so that no hit has the largest number, by which the Rust tells a miss. Assumes nothing.
use Rattle.std.proofs.Common.{None, Option, Some}
use Prim.Native.Nat.{ℕ, zero, suc, ◌+◌, ◌*◌, ◌≤◌, ◌<◌}
use mathlib.Core.Path.{◌≡◌, refl}
use mathlib.Core.Bool.{Bool, true, false, cond}
use mathlib.Core.List.{List, [], ◌∷◌, foldl}
use native.Mathlib.Omega.{arith}
use lib.Dec.{eqb, ltb}
use lib.Ieee.{Float, lt, eq}
use Rattle.lists.specs.Members.{All, holds}
use Rattle.geom.specs.declared.Vec2.{Vec2}
use Rattle.geom.specs.Box.{corners}
use Rattle.geom.specs.Ring.{corner_before}
use Rattle.grid.specs.declared.Grid.{Grid}
use Rattle.grid.specs.Boxes.{box_at}
use Rattle.grid.specs.Entries.{cell_of}
use Rattle.site.specs.Tables.{first_of, verts_of}
use Rattle.walk.specs.declared.Course.{Course}
use Rattle.walk.specs.declared.Place.{Place}
use Rattle.walk.specs.Clipping.{ray_start}
use Rattle.walk.specs.Steps.{cell_number, step_of, left, OnGrid}
use Rattle.walk.specs.Tours.{Visitor, Tour, ends_at, onward, tour_in, tour, tour_from, ray_tour}
use Rattle.walk.proofs.StepLaws.{moves}
use Rattle.walk.proofs.StartLaws.{start_in}
use Rattle.walk.proofs.EnteredOnce.{inside}
use Rattle.sight.specs.Slabs.{ray_hits_aabb_of}
use Rattle.sight.specs.Casting.{ray_of, edge_number, lower_of, nearer_of, edges_up_to, edges_met, pushed, item_seen, items_seen, looker, look_first, sighting_of, cast_ray_of}
use Rattle.sight.specs.declared.Ray.{Ray}
use Rattle.sight.specs.declared.Best.{Best}
use Rattle.sight.specs.declared.Recent.{Recent}
use Rattle.sight.specs.declared.Look.{Look}
use Rattle.site.specs.Hits.{hit_at}
use Rattle.site.specs.declared.RayHit.{RayHit}

-- a hit has an edge below n
abbrev pub Below : ℕ → (Option RayHit) → Type 0
Below n (Some h) = h.edge < n
Below n None = Unit {0}

-- the edges of the polygon have numbers below n
abbrev pub Numbered : ℕ → List Float → List ℕ → ℕ → Type 0
Numbered n points polygons id = first_of polygons id + corners (verts_of points polygons id) ≤ n

-- ---- what a walk's visitor keeps at each cell of the grid holds at the end
module _ {S : Type 0} (v : Visitor S) (k : Course) (P : S → Type 0) (keeps : (p : Place) (s : S) → OnGrid k p → P s → P (v.sees k p s)) where
  kept_by : (p : Place) (s : S) (f : Place → Tour S) (b : Bool) (t : (Option Place)) → step_of k p ≡ t → P s → ((q : Place) → step_of k p ≡ Some q → P (f q).final)
      → P (cond b (onward p s f t) (ends_at p s)).final
  kept_by p s f false t e h r = h
  kept_by p s f true None e h r = h
  kept_by p s f true (Some q) e h r = r q e

  kept_in : (m : ℕ) (p : Place) (s : S) → OnGrid k p → P s → P (tour_in v m k p s).final
  unfolding tour_in
  kept_in zero p s g h = keeps p s g h
  kept_in (suc m) p s g h =
      let t = v.sees k p s in
      kept_by p t (λ q. tour_in v m k q t) (v.goes k p t) (step_of k p) refl (keeps p s g h) (λ q e. kept_in m q t ((moves k p q e).stays g) (keeps p s g h))

  kept : (p : Place) (s : S) → OnGrid k p → P s → P (tour v k p s).final
  unfolding tour
  kept p s g h = kept_in (left k p) p s g h

-- ---- one edge, one polygon, one cell
module _ (n mode : ℕ) where
  lower_below : (c : (Option RayHit)) (b : Best) (e : ℕ) → e < n → Below n b.hit → Below n (lower_of c e b).hit
  lower_below None b e h g = g
  lower_below (Some q) b e h g = by (ltb e q.edge)
    where
      by : (x : Bool) → Below n (cond x (record { t = b.t; hit = hit_at q.t e }) b).hit
      by true = h
      by false = g

  nearer_by : (b : Best) (t : Float) (e : ℕ) (p q z : Bool) → e < n → Below n b.hit
      → Below n (cond p (record { t = t; hit = hit_at t e }) (cond q (cond z b (lower_of b.hit e b)) b)).hit
  nearer_by b t e true q z h g = h
  nearer_by b t e false false z h g = g
  nearer_by b t e false true true h g = g
  nearer_by b t e false true false h g = lower_below b.hit b e h g

  nearer_below : (b : Best) (m : (Option Float)) (e : ℕ) → e < n → Below n b.hit → Below n (nearer_of mode b m e).hit
  unfolding nearer_of
  nearer_below b (Some t) e h g = nearer_by b t e (lt t b.t) (eq t b.t) (eqb mode 0) h g
  nearer_below b None e h g = g

  before_in : (m i : ℕ) → i < m → corner_before m i < m
  before_in m zero h = omega arith
  before_in m (suc i) h = omega arith

  number_below : (first m i : ℕ) → first + m ≤ n → i < m → edge_number first i < n
  unfolding edge_number
  number_below first m i f h = omega arith

  edges_below : (ray : Ray) (ring : List Float) (first : ℕ) (b : Best) (k : ℕ) → first + corners ring ≤ n → k ≤ corners ring → Below n b.hit → Below n (edges_up_to (nearer_of mode) ray ring first b k).hit
  unfolding edges_up_to
  edges_below ray ring first b zero f h g = g
  edges_below ray ring first b (suc i) f h g =
      nearer_below (edges_up_to (nearer_of mode) ray ring first b i) _ (edge_number first (corner_before (corners ring) i))
      (number_below first (corners ring) (corner_before (corners ring) i) f (before_in (corners ring) i h)) (edges_below ray ring first b i f (omega arith) g)

  module _ (ray : Ray) (points boxes : List Float) (polygons : List ℕ) where
    item_by : (s : Look) (r : Recent) (e : Best) (a c : Bool) → Below n s.best.hit → Below n e.hit
        → Below n (cond a s (record { best = cond c e s.best; recent = r })).best.hit
    item_by s r e true c h g = h
    item_by s r e false true h g = g
    item_by s r e false false h g = h

    item_below : (s : Look) (id : ℕ) → Numbered n points polygons id → Below n s.best.hit → Below n (item_seen (nearer_of mode) ray points boxes polygons s id).best.hit
    unfolding item_seen edges_met
    item_below s id f h =
        item_by s (pushed s.recent id) (edges_met (nearer_of mode) ray (verts_of points polygons id) (first_of polygons id) s.best) (holds id s.recent.ids)
        (ray_hits_aabb_of ray.o ray.inv (box_at boxes id) s.best.t) h
        (edges_below ray (verts_of points polygons id) (first_of polygons id) s.best (corners (verts_of points polygons id)) f (omega arith) h)

    items_by : (ids : List ℕ) (s : Look) → All (Numbered n points polygons) ids → Below n s.best.hit → Below n (foldl (item_seen (nearer_of mode) ray points boxes polygons) s ids).best.hit
    items_by [] s f h = h
    items_by (x ∷ ids) s f h = items_by ids (item_seen (nearer_of mode) ray points boxes polygons s x) f.1 (item_below s x f.0 h)

    items_below : (ids : List ℕ) (s : Look) → All (Numbered n points polygons) ids → Below n s.best.hit → Below n (items_seen (nearer_of mode) ray points boxes polygons s ids).best.hit
    unfolding items_seen
    items_below ids s f h = items_by ids s f h

-- ---- the cast
module _ (n : ℕ) (g : Grid) (points boxes : List Float) (polygons starts items : List ℕ) (o d : Vec2) (len : Float) (mode : ℕ)
    (cells : (c : ℕ) → c < g.cols * g.rows → All (Numbered n points polygons) (cell_of starts items c)) where
  from_below : (t : (Option (Course × Place))) → ray_start g o d len ≡ t → Below n (tour_from (looker (nearer_of mode) (ray_of o d) points boxes polygons starts items) t (look_first len)).final.best.hit
  from_below None e = tt
  from_below (Some (k, p)) e =
      let b = start_in g o d len k p e in
      let m : k.cols * k.rows ≡ g.cols * g.rows = rw (b.same_cols, b.same_rows) in
      kept (looker (nearer_of mode) (ray_of o d) points boxes polygons starts items) k (λ s. Below n s.best.hit)
      (λ q s h f. items_below n mode (ray_of o d) points boxes polygons (cell_of starts items (cell_number k q)) s (cells (cell_number k q) (rw (← m) (inside k q h))) f)
      p (look_first len) b.on_grid tt

  pub hit_below : Below n (cast_ray_of g points boxes polygons starts items o d len mode).hit
  unfolding cast_ray_of sighting_of ray_tour
  hit_below = from_below (ray_start g o d len) refl

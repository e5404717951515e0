-- THE MODE MOVES NEITHER DISTANCE NOR CELLS: `alike`: in any two modes the ray answers the same distance, or a miss, and enters the same cells in the same order. Only
-- the edge may be another. Document 02, Q-3: "The single ray takes the lowest edge too, among the edges it tests". Assumes nothing.
use Rattle.std.proofs.Common.{None, Option, Some}
use mathlib.Core.Path.{◌≡◌, refl, sym, ap, ◌∙◌}
use mathlib.Core.Bool.{Bool, true, false, cond}
use mathlib.Core.List.{List, [], ◌∷◌}
use Prim.Native.Nat.{ℕ, zero, suc}
use lib.Dec.{eqb, ltb}
use lib.ListN.{length}
use lib.Ieee.{Float, lt, eq}
use Rattle.lists.specs.Members.{holds}
use Rattle.geom.specs.declared.Vec2.{Vec2}
use Rattle.geom.specs.Box.{corners, corner_of}
use Rattle.geom.specs.Segment.{ray_segment_of}
use Rattle.geom.specs.Ring.{corner_before}
use Rattle.grid.specs.declared.Grid.{Grid}
use Rattle.grid.specs.Boxes.{box_at}
use Rattle.grid.specs.Entries.{cell_of}
use Rattle.site.specs.Tables.{first_of, verts_of}
use Rattle.walk.specs.Clipping.{ray_start}
use Rattle.walk.specs.Steps.{cell_number, exit_of}
use Rattle.walk.specs.Tours.{place_cells, ray_cells}
use Rattle.sight.specs.Slabs.{ray_hits_aabb_of}
use Rattle.sight.specs.declared.Ray.{Ray}
use Rattle.sight.specs.declared.Best.{Best}
use Rattle.sight.specs.declared.Look.{Look}
use Rattle.sight.specs.declared.Recent.{Recent}
use Rattle.sight.specs.Casting.{ray_of, edge_number, lower_of, level_of, nearer_of, edges_up_to, edges_met, pushed, box_seen, item_seen, items_seen, looker, look_first, sighting_of, cast_ray_of, cast_cells}
use Rattle.sight.proofs.Together.{cond_both, ray_together}
use Rattle.site.specs.Hits.{hit_at}
use Rattle.site.specs.declared.RayHit.{RayHit}

-- a hit without its number
abbrev pub distance_in : (Option RayHit) → Option RayHit
distance_in (Some h) = hit_at h.t 0
distance_in None = None

record Near (b b' : Best) : Type 0 where
  pub t : b.t ≡ b'.t
  pub hit : distance_in b.hit ≡ distance_in b'.hit

record Like (s s' : Look) : Type 0 where
  pub best : Near s.best s'.best
  pub recent : s.recent ≡ s'.recent

near_self : (b : Best) → Near b b
near_self b = record { t = refl; hit = refl }

near_sym : (b b' : Best) → Near b b' → Near b' b
near_sym b b' h = record { t = sym h.t; hit = sym h.hit }

near_trans : (a b c : Best) → Near a b → Near b c → Near a c
near_trans a b c h k = record { t = h.t ∙ k.t; hit = h.hit ∙ k.hit }

-- ---- one edge
-- a lower number leaves the distance
lower_near : (c : (Option RayHit)) (b : Best) (e : ℕ) → b.hit ≡ c → Near (lower_of c e b) b
lower_near (Some q) b e h = by (ltb e q.edge)
  where
    by : (x : Bool) → Near (cond x (record { t = b.t; hit = hit_at q.t e }) b) b
    by true = record { t = refl; hit = sym (ap distance_in h) }
    by false = near_self b
lower_near None b e h = near_self b

level_near : (mode : ℕ) (b : Best) (e : ℕ) (q : Bool) → Near (cond q (level_of mode b e) b) b
level_near mode b e true = by (eqb mode 0)
  where
    by : (x : Bool) → Near (cond x b (lower_of b.hit e b)) b
    by true = near_self b
    by false = lower_near b.hit b e refl
level_near mode b e false = near_self b

module _ (m m' : ℕ) where
  nearer_near : (b b' : Best) (r : (Option Float)) (e : ℕ) → Near b b' → Near (nearer_of m b r e) (nearer_of m' b' r e)
  unfolding nearer_of
  nearer_near b b' None e h = h
  nearer_near b b' (Some t) e h =
      let l = cond (eq t b.t) (level_of m b e) b in
      let l' = cond (eq t b'.t) (level_of m' b' e) b' in
      cond_both Near (lt t b.t) (lt t b'.t) (record { t = t; hit = hit_at t e }) l (record { t = t; hit = hit_at t e }) l' (ap (lt t) h.t) (near_self (record { t = t; hit = hit_at t e }))
      (near_trans l b l' (level_near m b e (eq t b.t)) (near_trans b b' l' h (near_sym l' b' (level_near m' b' e (eq t b'.t)))))

  -- ---- the edges of a polygon, the polygons of a cell
  module _ (ray : Ray) where
    edges_near
        : (ring : List Float) (first : ℕ) (b b' : Best) (k : ℕ) → Near b b' → Near (edges_up_to (nearer_of m) ray ring first b k) (edges_up_to (nearer_of m') ray ring first b' k)
    unfolding edges_up_to
    edges_near ring first b b' zero h = h
    edges_near ring first b b' (suc i) h =
        let prev = corner_before (corners ring) i in
        nearer_near (edges_up_to (nearer_of m) ray ring first b i) (edges_up_to (nearer_of m') ray ring first b' i) (ray_segment_of ray.o ray.d (corner_of ring prev) (corner_of ring i))
        (edge_number first prev) (edges_near ring first b b' i h)

    module _ (points boxes : List Float) (polygons : List ℕ) where
      box_near : (b b' : Best) (id : ℕ) → Near b b' → Near (box_seen (nearer_of m) ray points boxes polygons b id) (box_seen (nearer_of m') ray points boxes polygons b' id)
      unfolding edges_met
      box_near b b' id h =
          let ring = verts_of points polygons id in
          let first = first_of polygons id in
          cond_both Near (ray_hits_aabb_of ray.o ray.inv (box_at boxes id) b.t) (ray_hits_aabb_of ray.o ray.inv (box_at boxes id) b'.t)
          (edges_met (nearer_of m) ray ring first b) b (edges_met (nearer_of m') ray ring first b') b' (ap (ray_hits_aabb_of ray.o ray.inv (box_at boxes id)) h.t)
          (edges_near ring first b b' (corners ring) h) h

      item_like : (s s' : Look) (id : ℕ) → Like s s' → Like (item_seen (nearer_of m) ray points boxes polygons s id) (item_seen (nearer_of m') ray points boxes polygons s' id)
      unfolding item_seen
      item_like s s' id h =
          cond_both Like (holds id s.recent.ids) (holds id s'.recent.ids) s
          (record { best = box_seen (nearer_of m) ray points boxes polygons s.best id; recent = pushed s.recent id }) s'
          (record { best = box_seen (nearer_of m') ray points boxes polygons s'.best id; recent = pushed s'.recent id })
          (ap (λ (r : Recent). holds id r.ids) h.recent) h
          (record { best = box_near s.best s'.best id h.best; recent = ap (λ (r : Recent). pushed r id) h.recent })

      items_like : (ids : List ℕ) (s s' : Look) → Like s s' → Like (items_seen (nearer_of m) ray points boxes polygons s ids) (items_seen (nearer_of m') ray points boxes polygons s' ids)
      unfolding items_seen
      items_like [] s s' h = h
      items_like (x ∷ ids) s s' h = items_like ids (item_seen (nearer_of m) ray points boxes polygons s x) (item_seen (nearer_of m') ray points boxes polygons s' x) (item_like s s' x h)

-- THE THEOREM
module _ (g : Grid) (points boxes : List Float) (polygons starts items : List ℕ) (o d : Vec2) (len : Float) (m m' : ℕ) where
  pub record Alike : Type 0 where
    pub distance : distance_in (cast_ray_of g points boxes polygons starts items o d len m).hit ≡ distance_in (cast_ray_of g points boxes polygons starts items o d len m').hit
    pub cells : (cast_ray_of g points boxes polygons starts items o d len m).cells ≡ (cast_ray_of g points boxes polygons starts items o d len m').cells
    pub entered : cast_cells g points boxes polygons starts items o d len m ≡ cast_cells g points boxes polygons starts items o d len m'

  pub alike : Alike
  unfolding cast_ray_of sighting_of ray_cells
  alike =
      let w =
      ray_together (looker (nearer_of m) (ray_of o d) points boxes polygons starts items) (looker (nearer_of m') (ray_of o d) points boxes polygons starts items) Like
      (λ k p s s' h. items_like m m' (ray_of o d) points boxes polygons (cell_of starts items (cell_number k p)) s s' h) (λ k p s s' h. ap (lt (exit_of k p)) h.best.t) g o d len
      (look_first len) (look_first len) (record { best = near_self (look_first len).best; recent = refl })
      in
      record { distance = w.final.best.hit; cells = ap length w.places; entered = ap (place_cells (ray_start g o d len)) w.places }

-- What `polygon_at` and `cast_ray` answer, in words. The polygon at a point is in the point's cell and passes both tests, and nothing higher does. The cells that a
-- cast counts are those of its walk: none twice, each a cell of the grid, at most columns + rows - 1 (demand 3). A hit names an edge of the site, so that none has
-- the largest number, by which the Rust tells a miss. These hold in both modes. `seen-rust`: mode 0 is the Rust's rule. `ray_modes`: mode 1 answers the same distance, or
-- miss, and as many cells. `seen_nearest` and `seen_lowest`: the edge is tested, nearest, and in mode 1 the lowest of those at its distance (document 02, Q-3).
-- Assumes nothing.
use Prim.Native.Nat.{ℕ, ◌*◌, ◌≤◌, ◌<◌}
use mathlib.Core.Path.{◌≡◌, refl, sym, ap, ◌∙◌}
use mathlib.Core.Bool.{Bool, true, false, cond}
use native.Mathlib.Nat.{le_refl}
use native.Mathlib.Omega.{arith}
use lib.ListN.{length}
use lib.Ieee.{Float}
use Rattle.lists.specs.Members.{All}
use Rattle.lists.proofs.Members.{all_map}
use Rattle.geom.specs.declared.Vec2.{Vec2}
use Rattle.grid.specs.Entries.{cell_of}
use Rattle.grid.specs.Query.{items_at}
use Rattle.grid.proofs.BoxQuery.{cell_named}
use Rattle.walk.proofs.EnteredOnce.{Once}
use Rattle.site.specs.Meets.{met_at}
use Rattle.site.specs.declared.Site.{Site}
use Rattle.site.specs.declared.RayHit.{RayHit}
use Rattle.site.specs.Hits.{hit_at}
use Rattle.refusal.specs.declared.Refusal.{Refusal}
use Rattle.refusal.specs.declared.Refusal.TheVariants.{OutsideDomain, Unsound}
use Rattle.std.proofs.Common.{Option, Result, Ok, Err}
use Rattle.site.specs.Tables.{Tables}
use Rattle.site.specs.Domain.{point_in_domain, load_of, load_point_of}
use Rattle.site.specs.Soundness.{sound_of, Sound}
use Rattle.site.proofs.SoundLaws.{sound, verts_length, grid_sound, grid_named}
use Rattle.sight.specs.declared.Sighting.{Sighting}
use Rattle.sight.specs.Holding.{holds_point}
use Rattle.sight.specs.Holding as holding
use Rattle.sight.specs.Casting as casting
use Rattle.sight.specs.Rust.{rust_cast_ray}
use Rattle.sight.proofs.Highest.{TopMost, top_most}
use Rattle.sight.proofs.Cells.{cells_counted, cells_once}
use Rattle.sight.proofs.Edges.{Below, Numbered, hit_below}
use Rattle.sight.proofs.Rusts.{rust_ray}
use Rattle.sight.proofs.Alike.{distance_in, alike}
use Rattle.sight.proofs.Lowest.{Nearest, nearest_ray, lowest_ray}
use Rattle.scene.specs.Asked.{asked, ray_in_domain}
use Rattle.scene.specs.Answers.{polygon_at_of, seen, cast_ray_of, seen_cells, seen_tested}

-- ---- `polygon_at`
found_by_lem : (w v : Option ℕ) (s i : Bool) → cond s (cond i (Ok w) (Err OutsideDomain)) (Err Unsound) ≡ Ok v → w ≡ v
found_by_lem w v true true e = cc
found_by_lem w v true false e = cc
found_by_lem w v false i e = cc

module _ (site : Site) (t : Tables) (p : Vec2) where
  found_is : (v : Option ℕ) → polygon_at_of site t p ≡ Ok v
      → holding.polygon_at_of site.grid t.points t.boxes t.polygons t.starts t.items (load_point_of p) ≡ v
  unfolding polygon_at_of asked
  found_is v e = found_by_lem _ v (sound_of site t) (point_in_domain p) e

  pub found_top_most : (v : Option ℕ) → polygon_at_of site t p ≡ Ok v
      → TopMost (holds_point t.points t.boxes t.polygons (load_point_of p)) (items_at site.grid (load_point_of p) t.starts t.items) v
  found_top_most v e = rw (found_is v e) at (top_most site.grid t.points t.boxes t.polygons t.starts t.items (load_point_of p))

-- ---- `cast_ray`
seen_by : (s v : Sighting) (a b : Bool) → cond a (cond b (Ok s) (Err OutsideDomain)) (Err Unsound) ≡ Ok v → (a ≡ true) × (v ≡ s)
seen_by s v true true e = (refl, (let k : s ≡ v = cc in sym k))
seen_by s v true false e = cc
seen_by s v false b e = cc

-- on sound tables the edges of every polygon in a cell are edges of the site
numbered : (site : Site) (t : Tables) → Sound site t → (c : ℕ) → c < site.grid.cols * site.grid.rows
    → All (Numbered site.points t.points t.polygons) (cell_of t.starts t.items c)
numbered site t h c l =
    all_map (λ (id : ℕ). id < site.polygons) (Numbered site.points t.points t.polygons) (λ id q. omega (arith, h.inside id q, verts_length h id q))
    (cell_of t.starts t.items c) (cell_named site.polygons c (grid_sound h) (grid_named h site.polygons (le_refl site.polygons)) l)

-- an answer without the number of its edge
abbrev pub without_edge : Result Sighting Refusal → Result Sighting Refusal
without_edge (Ok s) = seen (distance_in s.hit) s.cells
without_edge (Err r) = Err r

modes_by : (s s' : Sighting) (a b : Bool) → distance_in s.hit ≡ distance_in s'.hit → s.cells ≡ s'.cells
    → without_edge (cond a (cond b (Ok s) (Err OutsideDomain)) (Err Unsound)) ≡ without_edge (cond a (cond b (Ok s') (Err OutsideDomain)) (Err Unsound))
modes_by s s' true true h c = rw (h, c)
modes_by s s' true false h c = refl
modes_by s s' false b h c = refl

edge_of : (n : ℕ) (c : Option RayHit) (x : Float) (e : ℕ) → hit_at x e ≡ c → Below n c → e < n
edge_of n c x e h b = rw (← h) at b

module _ (site : Site) (t : Tables) (o d : Vec2) (len : Float) (mode : ℕ) where
  -- the cast itself, without the tests
  abbrev cast : Sighting
  cast = casting.cast_ray_of site.grid t.points t.boxes t.polygons t.starts t.items (load_point_of o) (load_point_of d) (load_of len) mode

  seen_is : (hit : Option RayHit) (n : ℕ) → cast_ray_of site t o d len mode ≡ seen hit n → (sound_of site t ≡ true) × (hit ≡ cast.hit) × (n ≡ cast.cells)
  unfolding cast_ray_of asked
  seen_is hit n e =
      let s = seen_by cast (record { hit = hit; cells = n }) (sound_of site t) (ray_in_domain o d len mode) e in
      (s.0, ap (λ (v : Sighting). v.hit) s.1, ap (λ (v : Sighting). v.cells) s.1)

  pub seen_counted : (hit : Option RayHit) (n : ℕ) → cast_ray_of site t o d len mode ≡ seen hit n → n ≡ length (seen_cells site t o d len mode)
  seen_counted hit n e =
      (seen_is hit n e).2 ∙ cells_counted site.grid t.points t.boxes t.polygons t.starts t.items (load_point_of o) (load_point_of d) (load_of len) mode

  pub seen_once : Once site.grid (seen_cells site t o d len mode)
  seen_once = cells_once site.grid t.points t.boxes t.polygons t.starts t.items (load_point_of o) (load_point_of d) (load_of len) mode

  module _ (x : Float) (e n : ℕ) (h : cast_ray_of site t o d len mode ≡ seen (hit_at x e) n) where
    -- a hit names an edge of the site
    pub seen_edge : e < site.points
    seen_edge =
        let s = seen_is (hit_at x e) n h in
        edge_of site.points _ x e s.1
        (hit_below site.points site.grid t.points t.boxes t.polygons t.starts t.items (load_point_of o) (load_point_of d) (load_of len) mode
        (numbered site t (sound site t s.0)))

    -- which is one of those tested, met at exactly the distance answered, and none of these is met nearer
    pub seen_nearest : Nearest x e (seen_tested site t o d len mode)
    seen_nearest =
        nearest_ray site.grid t.points t.boxes t.polygons t.starts t.items (load_point_of o) (load_point_of d) (load_of len) mode x e
        (sym (seen_is (hit_at x e) n h).1)

    -- and in a mode that is not 0 none that is met there has a lower number
    pub seen_lowest : (mode ≡ 0 → ⊥) → All (λ y. met_at x y.met ≡ true → e ≤ y.edge) (seen_tested site t o d len mode)
    seen_lowest =
        lowest_ray site.grid t.points t.boxes t.polygons t.starts t.items (load_point_of o) (load_point_of d) (load_of len) mode x e
        (sym (seen_is (hit_at x e) n h).1)

-- ---- the two modes
module _ (site : Site) (t : Tables) (o d : Vec2) (len : Float) where
  -- mode 0 is the Rust's cast
  pub seen_rust
      : cast_ray_of site t o d len 0
      ≡ asked Err site t (ray_in_domain o d len 0)
      (Ok (rust_cast_ray site.grid t.points t.boxes t.polygons t.starts t.items (load_point_of o) (load_point_of d) (load_of len)))
  unfolding cast_ray_of
  seen_rust =
      ap (λ (s : Sighting). asked Err site t (ray_in_domain o d len 0) (Ok s))
      (rust_ray site.grid t.points t.boxes t.polygons t.starts t.items (load_point_of o) (load_point_of d) (load_of len))

  -- and mode 1 answers what mode 0 does but for the edge: the same refusal, or the same distance or miss and as many cells
  pub ray_modes : without_edge (cast_ray_of site t o d len 0) ≡ without_edge (cast_ray_of site t o d len 1)
  unfolding cast_ray_of asked ray_in_domain
  ray_modes =
      let same = alike site.grid t.points t.boxes t.polygons t.starts t.items (load_point_of o) (load_point_of d) (load_of len) 0 1 in
      modes_by (cast site t o d len 0) (cast site t o d len 1) (sound_of site t) (ray_in_domain o d len 0)
      same.distance same.cells

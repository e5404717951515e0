-- OVER SOUND TABLES NO QUESTION IS REFUSED AS 6: of every call of `scene`, whatever is asked. Sites that building made have sound tables (BuiltSites.antt). Assumes
-- nothing.
use Prim.Native.Nat.{ℕ}
use mathlib.Core.Path.{◌≡◌}
use mathlib.Core.List.{List}
use lib.Ieee.{Float}
use Rattle.geom.specs.declared.Vec2.{Vec2}
use Rattle.geom.specs.declared.Aabb.{Aabb}
use Rattle.site.specs.declared.Site.{Site}
use Rattle.site.specs.Tables.{Tables}
use Rattle.site.specs.Soundness.{Sound}
use Rattle.site.specs.Checks.{Checks, check, Exactly}
use Rattle.scene.specs.Answers.{width_of, height_of, bounds_of, dims_of, polygon_of, polygon_vertices_number_of, edge_of, edge_end_of, edge_owner_of, items_at_number_of, polygon_at_of, cast_ray_of}
use Rattle.scene.specs.Stamping.{new_stamps_of, polygons_near_of}
use Rattle.refusal.specs.Numbers.{status_of}
use Rattle.scene.proofs.Refusals.{width_exactly, height_exactly, bounds_exactly, dims_exactly, polygon_exactly, polygon_vertices_exactly, edge_exactly, edge_end_exactly, edge_owner_exactly, new_stamps_exactly, polygons_near_exactly, items_at_exactly, polygon_at_exactly, cast_ray_exactly}

pub record NeverSix (site : Site) (t : Tables) : Type 0 where
  pub width : status_of (width_of site t) ≡ 6 → ⊥
  pub height : status_of (height_of site t) ≡ 6 → ⊥
  pub bounds : status_of (bounds_of site t) ≡ 6 → ⊥
  pub dims : status_of (dims_of site t) ≡ 6 → ⊥
  pub polygon : (id : ℕ) → status_of (polygon_of site t id) ≡ 6 → ⊥
  pub polygon_vertices : (id : ℕ) → status_of (polygon_vertices_number_of site t id) ≡ 6 → ⊥
  pub edge : (e : ℕ) → status_of (edge_of site t e) ≡ 6 → ⊥
  pub edge_end : (e : ℕ) → status_of (edge_end_of site t e) ≡ 6 → ⊥
  pub edge_owner : (e : ℕ) → status_of (edge_owner_of site t e) ≡ 6 → ⊥
  pub new_stamps : (m : List ℕ) (e : ℕ) → status_of (new_stamps_of site t m e).answer ≡ 6 → ⊥
  pub polygons_near : (b : Aabb) (m : List ℕ) (e : ℕ) (ids : List ℕ) → status_of (polygons_near_of site t b m e ids).answer ≡ 6 → ⊥
  pub items_at : (p : Vec2) → status_of (items_at_number_of site t p) ≡ 6 → ⊥
  pub polygon_at : (p : Vec2) → status_of (polygon_at_of site t p) ≡ 6 → ⊥
  pub cast_ray : (o d : Vec2) (len : Float) (mode : ℕ) → status_of (cast_ray_of site t o d len mode) ≡ 6 → ⊥

module _ (site : Site) (t : Tables) (s : Sound site t) where
  -- of whatever is checked for its tables first
  pub not_six : {later : Checks} {status : ℕ} → Exactly (check 6 (Sound site t) later) status → status ≡ 6 → ⊥
  not_six x e = x.only 6 e s

  pub sound_never_six : NeverSix site t
  sound_never_six = record {
    width = not_six (width_exactly site t);
    height = not_six (height_exactly site t);
    bounds = not_six (bounds_exactly site t);
    dims = not_six (dims_exactly site t);
    polygon = λ id. not_six (polygon_exactly site t id);
    polygon_vertices = λ id. not_six (polygon_vertices_exactly site t id);
    edge = λ e. not_six (edge_exactly site t e);
    edge_end = λ e. not_six (edge_end_exactly site t e);
    edge_owner = λ e. not_six (edge_owner_exactly site t e);
    new_stamps = λ m e. not_six (new_stamps_exactly site t m e);
    polygons_near = λ b m e ids. not_six (polygons_near_exactly site t b m e ids);
    items_at = λ p. not_six (items_at_exactly site t p);
    polygon_at = λ p. not_six (polygon_at_exactly site t p);
    cast_ray = λ o d len mode. not_six (cast_ray_exactly site t o d len mode);
  }

-- SITES BUILT HERE, at the entry points. Wherever building answers a site, its tables are sound, so that no question is refused as 6; and the box query keeps demand 3
-- over the polygons' own cells, with stamps kept as asked. Document 01; demand 3. Assumes nothing.
use Prim.Native.Nat.{ℕ, ◌≤◌}
use mathlib.Core.Path.{◌≡◌}
use mathlib.Core.Bool.{true}
use mathlib.Core.List.{List}
use lib.ListN.{length}
use lib.Ieee.{Float}
use Rattle.geom.specs.declared.Aabb.{Aabb}
use Rattle.grid.specs.Stamps.{Fresh}
use Rattle.tables.specs.Tables.{span_of}
use Rattle.tables.proofs.BuiltQuery.{Demand}
use Rattle.site.specs.declared.Site.{Site}
use Rattle.site.specs.Tables.{Tables}
use Rattle.site.specs.Domain.{box_in_domain, load_box_of}
use Rattle.site.specs.Soundness.{sound_of}
use Rattle.site.proofs.SoundLaws.{sound}
use Rattle.build.specs.Outcome.{outcome, Does}
use Rattle.std.proofs.Common.{Ok}
use Rattle.build.proofs.BuiltSound.{built_sound}
use Rattle.build.proofs.BuiltIndex.{built_query}
use Rattle.scene.specs.Stamping.{polygons_near_of}
use Rattle.scene.proofs.Near.{asks}
use Rattle.scene.proofs.NeverSix.{NeverSix, sound_never_six}

module _ (width height : Float) (given : List Float) (lens : List ℕ) (lent left : Tables) (s : Site) (d : Does (outcome width height given lens lent) (Ok s) left) where
  is_sound : sound_of s left ≡ true
  is_sound = built_sound width height given lens lent left s d

  pub never_six : NeverSix s left
  never_six = sound_never_six s left (sound s left is_sound)

  -- the span of a polygon is the range of its box
  pub near_demand : (b : Aabb) (m : List ℕ) (e : ℕ) (ids : List ℕ) → box_in_domain b ≡ true → s.polygons ≤ length m → Fresh e m
      → Demand s.grid (span_of s.grid left.boxes) s.polygons (load_box_of b) (length ids) (polygons_near_of s left b m e ids)
  near_demand b m e ids i l f = rw (asks s left b m e ids is_sound i l) (built_query width height given lens lent left s d (load_box_of b) m e (length ids) l f)

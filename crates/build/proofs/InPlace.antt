-- EACH POLYGON KEEPS ITS PLACE (`in_place`): a site that was built has a polygon for each length given, and the polygon k has as many points as the k-th length says,
-- none where that is 0: those given behind the points of the polygons before it, as they are stored. Document 01: "Fewer than three points: .. id kept"; document 02, Q-2: an empty polygon "keeps its id, has no points". Assumes nothing.
use Rattle.std.proofs.Common.{Ok}
use mathlib.Core.Path.{◌≡◌, ap, ◌∙◌}
use mathlib.Core.List.{List}
use Prim.Native.Nat.{ℕ, ◌<◌}
use lib.ListN.{length}
use lib.Ieee.{Float}
use Rattle.site.specs.declared.Site.{Site}
use Rattle.site.specs.Tables.{Tables, len_of, verts_of}
use Rattle.build.specs.Stored.{len_in, stored_of}
use Rattle.build.specs.Outcome.{site_of, plan_of, tables_of, rooms_of, outcome, Does}
use Rattle.build.proofs.Deciding.{going}
use Rattle.build.proofs.Laid.{len_is, verts_are}
use Rattle.build.proofs.BuiltSound.{plan_of_lem}

pub record InPlace (given : List Float) (lens : List ℕ) (s : Site) (t : Tables) : Type 0 where
  pub many : s.polygons ≡ length lens
  pub len : (k : ℕ) → k < length lens → len_of t.polygons k ≡ len_in lens k
  pub points : (k : ℕ) → k < length lens → verts_of t.points t.polygons k ≡ stored_of given lens k

pub in_place : (width height : Float) (given : List Float) (lens : List ℕ) (lent left : Tables) (s : Site) → Does (outcome width height given lens lent) (Ok s) left → InPlace given lens s left
unfolding outcome site_of tables_of
in_place width height given lens lent left s d =
    let p = plan_of_lem (plan_of width height given lens (rooms_of lent)) given lens lent left s d in
    let w = going width height given lens (rooms_of lent) s p.0 in
    record {
      many = ap (λ (x : Site). x.polygons) w.is;
      len = λ k h. ap (λ (x : Tables). len_of x.polygons k) p.1 ∙ len_is lens (length lent.polygons) k h;
      points =
          λ k h. ap (λ (x : Tables). verts_of x.points x.polygons k) p.1 ∙ verts_are given lens w.counts (length lent.points) (length lent.polygons) k h;
    }

-- EACH LINE'S POLYGON KEEPS ITS ID (`line_kept`): the site of a text has a polygon for each line, and the polygon of an id has as many points as the line with this
-- number, none where the line is POLYGON EMPTY. `line_seen`: the line of an id listed as visible has points, three at least, so an empty polygon is never
-- listed (document 02, Q-2). Assumes nothing.
use Rattle.std.proofs.Common.{Ok}
use mathlib.Core.Path.{◌≡◌, refl, sym, ◌∙◌}
use mathlib.Core.List.{List, []}
use Prim.Native.Nat.{ℕ, ◌≤◌, ◌<◌}
use native.Mathlib.Nat.{le_trans, le_of_eq}
use lib.ListN.{length, get_or, take}
use lib.Ieee.{Float}
use Rattle.num.specs.Ops.{zero_f}
use Rattle.lists.specs.Members.{In}
use Rattle.lists.proofs.Members.{all_in}
use Rattle.geom.specs.Vec.{vec}
use Rattle.site.specs.declared.Site.{Site}
use Rattle.site.specs.Tables.{Tables, len_of}
use Rattle.build.proofs.InPlace.{InPlace, in_place}
use Rattle.cone.specs.Cone.{full_of}
use Rattle.stages.specs.declared.Shown.{Shown}
use Rattle.visibility.specs.Beside.{tenth}
use Rattle.visibility.proofs.Ids.{visible_named}
use Rattle.wkt.specs.Grammar.{Point}
use Rattle.wkt.specs.Answer.{all_coords, lengths}
use Rattle.wkt.proofs.Stored.{length_lengths, lengths_at}
use Rattle.planner.specs.Rooms.{rooms, site_room, work_room}
use Rattle.planner.specs.Answer.{outline_of, site_of}

-- of the rings of any text, as `answer_by` has them
module _ (rs : List (List Point)) (s : Site) (built : (site_of (all_coords rs) (lengths rs)).answer ≡ Ok s) where
  abbrev left : Tables
  left = (site_of (all_coords rs) (lengths rs)).left

  placed : InPlace (all_coords rs) (lengths rs) s left
  unfolding site_of
  placed = in_place zero_f zero_f (all_coords rs) (lengths rs) site_room left s (record { says = sym built; leaves = refl })

  pub line_kept : (s.polygons ≡ length rs) × ((id : ℕ) → id < length rs → len_of left.polygons id ≡ length (get_or rs id []))
  line_kept = (placed.many ∙ length_lengths rs, λ id h. placed.len id (le_trans h (le_of_eq (sym (length_lengths rs)))) ∙ lengths_at rs id)

  module _ (x y range : Float) (v : Shown) (seen : (outline_of s left x y range).answer ≡ Ok v) where
    named : (id : ℕ) → In id (take v.visible (outline_of s left x y range).left.visible) → (id < s.polygons) × (3 ≤ len_of left.polygons id)
    unfolding outline_of
    named id i =
        let d = visible_named s left (full_of (vec x y) range) tenth 0 rooms work_room v seen in
        let ids = take v.visible (outline_of s left x y range).left.visible in
        (all_in (λ (k : ℕ). k < s.polygons) ids id d.named i, all_in (λ (k : ℕ). 3 ≤ len_of left.polygons k) ids id d.cornered i)

    pub line_seen : (id : ℕ) → In id (take v.visible (outline_of s left x y range).left.visible) → 3 ≤ length (get_or rs id [])
    line_seen id i =
        let (b, n) = named id i in
        le_trans n (le_of_eq (line_kept.1 id (le_trans b (le_of_eq line_kept.0))))

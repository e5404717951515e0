-- Who is credited for a hit: the entries of the Rust's `owners` (`visibility.rs`, lines 438 and 674) in both modes. In mode 0 one for the edge that the cast
-- answered. In the other, document 02, Q-3: "the outline should credit every polygon owning a tested edge at that distance, one owner entry each, wherever the
-- Rust's mode credits the cast's edge". Definitions only.
use Rattle.std.specs.Prelude.{◌≡◌, false, cond, List, [], ◌∷◌, ◌++◌, map, ℕ, ◌+◌, ◌≤◌, eqb, get_or, set, replicate, Float, None, Option, Some}
use Rattle.lists.specs.Lists.{filter}
use Rattle.geom.specs.Constants.{nano}
use Rattle.geom.specs.declared.Vec2.{Vec2}
use Rattle.site.specs.Tables.{owner_at}
use Rattle.room.specs.declared.LocalEdge.{LocalEdge}
use Rattle.index.specs.Angular.{Index}
use Rattle.index.specs.Casting.{cast_of, ties_at, tested_in}
use Rattle.outline.specs.declared.Trace.{Trace}
use Rattle.outline.specs.Outline.{Own, owned, own_of, Room}
use Rattle.site.specs.declared.RayHit.{RayHit}

-- ---- one for each owner
-- the edges of the list whose owner has no mark, the first of each owner: an owner is marked with its first edge. One past the marks counts as marked
abbrev pub firsts_of : List ℕ → List ℕ → List ℕ → List ℕ
firsts_of owners marks [] = []
firsts_of owners marks (e ∷ l) =
    let rest = firsts_of owners (set marks (owner_at owners e) 1) l in
    let same = firsts_of owners marks l in
    cond (eqb (get_or marks (owner_at owners e) 1) 0) (e ∷ rest) same

-- a mark for each polygon that a sound site has at most, none of them set
unfoldable pub no_marks : List ℕ
no_marks = replicate 4096 0

-- ---- which edges have an entry
-- the numbers of those that the ray meets at exactly the distance t
unfoldable pub tied_numbers : Vec2 → Vec2 → Float → List LocalEdge → List ℕ
unfolding ties_at
tied_numbers o dir t l = map (λ (e : LocalEdge). e.edge) (filter (ties_at nano o dir t) l)

-- beside the edge that the cast answers: for each further owner of the tied edges, the first of its edges that was tested
abbrev pub further_by : Index → List ℕ → Vec2 → Float → Vec2 → Float → (Option RayHit) → List ℕ
further_by x owners o angle dir max (Some h) = firsts_of owners (set no_marks (owner_at owners h.edge) 1) (tied_numbers o dir h.t (tested_in x o angle dir max))
further_by x owners o angle dir max None = []

-- of the cast from o at an angle. In the Rust's mode there are none
unfoldable pub further_of : Index → List ℕ → Vec2 → Float → Vec2 → Float → List ℕ
unfolding cast_of tested_in tied_numbers no_marks
further_of x owners o angle dir max = cond (eqb x.head.mode 0) [] (further_by x owners o angle dir max (cast_of x o angle dir max))

-- all of that cast, which hit the edge e: the further ones, and e itself. Who asks gives the edge that the cast answered, and no other; so the owner of that edge has
-- its entry by e
unfoldable pub credits_of : Index → List ℕ → Vec2 → Float → Vec2 → Float → ℕ → List ℕ
unfolding further_of
credits_of x owners o angle dir max e = further_of x owners o angle dir max ++ (e ∷ [])

-- ---- their entries, one after the other
abbrev pub own_all : ℕ → List ℕ → List ℕ → List ℕ → Trace → Own
own_all room owners [] marks s = owned marks s
own_all room owners (e ∷ l) marks s = let q = own_of room owners e marks s in own_all room owners l q.marks q.at

-- the counts afterwards: the entries stay within their room, and the other counts stay
pub record Raised (room : ℕ) (s r : Trace) : Type 0 where
  pub points : r.points ≡ s.points
  pub refinements : r.refinements ≡ s.refinements
  pub entries : Room room r
  pub up : s.owners ≤ r.owners

-- and with the entry of a hit there is one more at least, unless the run was over
pub record Credited (room : ℕ) (s r : Trace) : Type 0 where
  pub raised : Raised room s r
  pub grew : s.over ≡ false → s.owners + 1 ≤ r.owners

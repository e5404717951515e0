-- The walk down the references of a bucket, turn by turn. Assumes nothing.
use Rattle.std.proofs.Common.{◌≡◌, ℕ, suc, ◌+◌, ◌-◌, ◌<◌, ◌≤◌, min, Bool, true, false, List, [], ◌∷◌, map, length, get_or, sym, ap, ◌∙◌, ⊎_elim, arith, drop_of_length-le}
use lib.Seq.{take-nil}
use lib.Ieee.{Float, nan}
use Rattle.lists.specs.Parts.{part}
use Rattle.lists.proofs.Cases.{lt_or_le}
use Rattle.lists.proofs.Parts.{part_none, drop_here}
use Rattle.geom.specs.Segment.{ray_segment_within}
use Rattle.geom.specs.declared.Vec2.{Vec2}
use Rattle.room.specs.declared.Rooms.{Rooms}
use Rattle.room.specs.declared.LocalEdge.{LocalEdge}
use Rattle.room.specs.Records.{edge_at}
use Rattle.index.specs.declared.Best.{Best}
use Rattle.index.specs.declared.Ends.{Ends}
use Rattle.index.specs.Casting.{better_of, stop_of, meet_of, walk_of, tested_of}

module _ {A : Type 0} where
  -- the next of a part that may go past the end
  pub cut_here : (a e : ℕ) (l : List A) (d : A) → a < e → a < length l → part a e l ≡ get_or l a d ∷ part (a + 1) e l
  cut_here a e l d h k = let s : e - a ≡ suc (e - (a + 1)) = omega arith in rw (s, drop_here l a d k)

  pub cut_none : (a e : ℕ) (l : List A) → min e (length l) ≤ a → part a e l ≡ []
  cut_none a e l h =
      ⊎_elim (λ s. let g : length l ≤ a = omega arith in rw (drop_of_length-le l g) (take-nil (e - a))) (λ s. part_none a e l s) (lt_or_le a e)

module _ (slack : Float) (o dir : Vec2) (mode : ℕ) (E : ℕ → LocalEdge) (b : Best) (l : List ℕ) (j to : ℕ) where
  -- what the walk gives of what is left, and how many of it are tested
  abbrev best_from : Best → ℕ → Best
  best_from q i = walk_of slack o dir mode q (map E (part i to l))

  abbrev many_from : Best → ℕ → ℕ
  many_from q i = length (tested_of slack o dir mode q (map E (part i to l)))

  walk_stop : j < to → j < length l → stop_of mode b.t (E (get_or l j 0)).near ≡ true → (best_from b j ≡ b) × (many_from b j ≡ 0)
  unfolding walk_of tested_of
  walk_stop h k e = (rw (cut_here j to l 0 h k) (rw e), rw (cut_here j to l 0 h k) (rw e))

  walk_go : j < to → j < length l → stop_of mode b.t (E (get_or l j 0)).near ≡ false
      → (best_from b j ≡ best_from (meet_of slack o dir mode (E (get_or l j 0)) b) (j + 1)) × (many_from b j ≡ suc (many_from (meet_of slack o dir mode (E (get_or l j 0)) b) (j + 1)))
  unfolding walk_of tested_of
  walk_go h k e = (rw (cut_here j to l 0 h k) (rw e), rw (cut_here j to l 0 h k) (rw e))

  pub walk_end : min to (length l) ≤ j → (best_from b j ≡ b) × (many_from b j ≡ 0)
  unfolding walk_of tested_of
  walk_end h = (rw (cut_none j to l h), rw (cut_none j to l h))

-- one turn
module _ (k : Rooms) (slack : Float) (floats : List Float) (words : List ℕ) (from to : ℕ) (o dir : Vec2) (mode : ℕ) (b all : Best) (many j : ℕ) (h : j < to) (g : j < length words)
    (inv : walk_of slack o dir mode b (map (edge_at k floats words) (part j to words)) ≡ all) (so : j + length (tested_of slack o dir mode b (map (edge_at k floats words) (part j to words))) ≡ from + many)
    {n : ℕ} {near : Float} {halt : Bool} (hn : n ≡ get_or words j 0) (hd : near ≡ get_or floats n nan) (hh : halt ≡ stop_of mode b.t near) where
  halts : halt ≡ stop_of mode b.t (get_or floats (get_or words j 0) nan)
  halts = hh ∙ ap (λ (q : Float). stop_of mode b.t q) (hd ∙ ap (λ (q : ℕ). get_or floats q nan) hn)

  pub stops : halt ≡ true → (b ≡ all) × (j ≡ from + many)
  unfolding edge_at
  stops e =
      let q = walk_stop slack o dir mode (edge_at k floats words) b words j to h g (sym halts ∙ e) in
      (sym q.0 ∙ inv, omega (arith, so, q.1))

  pub goes : halt ≡ false → (e : Ends) → (e.a ≡ (edge_at k floats [] (get_or words j 0)).a) × (e.b ≡ (edge_at k floats [] (get_or words j 0)).b)
      → (b' : Best) → b' ≡ better_of mode (ray_segment_within slack o dir e.a e.b) (edge_at k [] words (get_or words j 0)).edge b
      → (walk_of slack o dir mode b' (map (edge_at k floats words) (part (j + 1) to words)) ≡ all)
      × (j + 1 + length (tested_of slack o dir mode b' (map (edge_at k floats words) (part (j + 1) to words))) ≡ from + many)
  unfolding edge_at meet_of
  goes t e (ha, hb) b' hb' =
      let s : b' ≡ meet_of slack o dir mode (edge_at k floats words (get_or words j 0)) b = hb' ∙ rw (ha, hb) in
      let q = walk_go slack o dir mode (edge_at k floats words) b words j to h g (sym halts ∙ t) in
      rw s (sym q.0 ∙ inv, omega (arith, so, q.1))

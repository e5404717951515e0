-- Each way through `push` and `own`, over plain values. Assumes nothing.
use mathlib.Core.Path.{◌≡◌, refl, sym, ◌∙◌}
use mathlib.Core.Bool.{Bool, true, false}
use mathlib.Core.List.{List}
use Prim.Native.Nat.{ℕ, ◌+◌, ◌*◌, ◌<◌, ◌≤◌}
use native.Mathlib.Omega.{arith}
use lib.ListN.{length, set}
use lib.Ieee.{Float}
use borrow.Author.Tests.{lt-ltb, le-ltb, le-leb, lt-leb, eq-eqb, ne_eqb}
use Rattle.geom.specs.declared.Vec2.{Vec2}
use Rattle.site.specs.Tables.{owner_at}
use Rattle.outline.specs.declared.Trace.{Trace}
use Rattle.outline.specs.declared.Place.{Place}
use Rattle.outline.specs.declared.Place.TheVariants.{Skip, Corner, Same, Add, Full}
use Rattle.outline.specs.Outline.{corner, trace, close_of, room_of, tail_of, last_of, place_of, Safe, act, push_of, owned, own_of, Room, Grown}

module _ (l n : ℕ) where
  pub room_add : 2 * n + 2 ≤ l → Add ≡ room_of l n
  unfolding room_of
  room_add h = rw (le-leb _ _ h)

  pub room_full : l < 2 * n + 2 → Full ≡ room_of l n
  unfolding room_of
  room_full h = rw (lt-leb _ _ h)

module _ (l : ℕ) (s : Trace) (tag : ℕ) where
  module _ {r : Place} (hr : r ≡ room_of l s.points) where
    pub tail_corner : tag ≡ corner → r ≡ tail_of l s tag
    unfolding tail_of
    tail_corner a = cc (eq-eqb _ _ a)

    pub tail_few : (tag ≡ corner → ⊥) → s.points < 2 → r ≡ tail_of l s tag
    unfolding tail_of
    tail_few a b = cc (ne_eqb _ _ a, lt-ltb _ _ b)

    pub tail_last : (tag ≡ corner → ⊥) → 2 ≤ s.points → (s.last ≡ tag → ⊥) → r ≡ tail_of l s tag
    unfolding tail_of
    tail_last a b d = cc (ne_eqb _ _ a, le-ltb _ _ b, ne_eqb _ _ d)

    pub tail_prev : (tag ≡ corner → ⊥) → 2 ≤ s.points → s.last ≡ tag → (s.prev ≡ tag → ⊥) → r ≡ tail_of l s tag
    unfolding tail_of
    tail_prev a b d e = cc (ne_eqb _ _ a, le-ltb _ _ b, eq-eqb _ _ d, ne_eqb _ _ e)

  pub tail_same : (tag ≡ corner → ⊥) → 2 ≤ s.points → s.last ≡ tag → s.prev ≡ tag → Same ≡ tail_of l s tag
  unfolding tail_of
  tail_same a b d e = cc (ne_eqb _ _ a, le-ltb _ _ b, eq-eqb _ _ d, eq-eqb _ _ e)

module _ (pts : List Float) (s : Trace) (tag : ℕ) (o p : Vec2) where
  pub place_over : s.over ≡ true → Skip ≡ place_of pts s o p tag
  unfolding place_of
  place_over a = cc

  pub place_none : {r : Place} → r ≡ tail_of (length pts) s tag → s.over ≡ false → s.points ≡ 0 → r ≡ place_of pts s o p tag
  unfolding place_of
  place_none hr a b = cc (eq-eqb _ _ b)

  module _ {q : Bool} (hq : q ≡ close_of o p (last_of pts s)) (a : s.over ≡ false) (b : s.points ≡ 0 → ⊥) where
    pub place_corner : q ≡ true → tag ≡ corner → Corner ≡ place_of pts s o p tag
    unfolding place_of
    place_corner d e = cc (ne_eqb _ _ b, eq-eqb _ _ e)

    pub place_skip : q ≡ true → (tag ≡ corner → ⊥) → Skip ≡ place_of pts s o p tag
    unfolding place_of
    place_skip d e = cc (ne_eqb _ _ b, ne_eqb _ _ e)

    pub place_far : {r : Place} → r ≡ tail_of (length pts) s tag → q ≡ false → r ≡ place_of pts s o p tag
    unfolding place_of
    place_far hr d = cc (ne_eqb _ _ b)

  pub push_by : {r k : Place} → r ≡ place_of pts s o p tag → r ≡ k → act k p tag pts s ≡ push_of o p tag pts s
  unfolding push_of
  push_by h e = rw (sym e ∙ h)

-- what the chosen place asks holds
pub safe_at : {k r : Place} (n l : ℕ) → r ≡ k → Safe r n l → Safe k n l
safe_at n l e h = rw e at h

-- a flag is not both
pub clash : {v : Bool} → v ≡ true → v ≡ false → ⊥
clash a b = let z : ◌≡◌ {A = ℕ} 0 1 = cc in omega arith

module _ (room : ℕ) (owners : List ℕ) (e : ℕ) (marks : List ℕ) (s : Trace) where
  pub own_over : s.over ≡ true → owned marks s ≡ own_of room owners e marks s
  unfolding own_of
  own_over a = cc

  pub own_add : s.over ≡ false → s.owners < room
      → owned (set marks (owner_at owners e) 1) (trace s.points s.last s.prev (s.owners + 1) s.refinements s.over) ≡ own_of room owners e marks s
  unfolding own_of
  own_add a b = cc (lt-ltb _ _ b)

  pub own_full : s.over ≡ false → room ≤ s.owners → owned marks (trace s.points s.last s.prev (s.owners + 1) s.refinements true) ≡ own_of room owners e marks s
  unfolding own_of
  own_full a b = cc (le-ltb _ _ b)

  -- by what the calls answer
  pub own_add_by : {w i o j : ℕ} {l : List ℕ} → s.over ≡ false → w ≡ room → s.owners < w → i ≡ e → o ≡ owner_at owners i → j ≡ o → l ≡ set marks j 1
      → owned l (trace s.points s.last s.prev (s.owners + 1) s.refinements s.over) ≡ own_of room owners e marks s
  own_add_by a hw b hi ho hj hl = rw (hl, hj, ho, hi) (own_add a (omega arith))

  pub own_full_by : {w : ℕ} → s.over ≡ false → w ≡ room → w ≤ s.owners → owned marks (trace s.points s.last s.prev (s.owners + 1) s.refinements true) ≡ own_of room owners e marks s
  own_full_by a hw b = own_full a (omega arith)

module _ {room : ℕ} {s : Trace} (h : Room room s) where
  pub grown_over : s.over ≡ true → Grown room s s
  grown_over a = record { points = refl; refinements = refl; entries = h; up = omega arith; grew = λ z. absurd (clash a z) }

  pub grown_add : {w : ℕ} → s.over ≡ false → w ≡ room → s.owners < w → Grown room s (trace s.points s.last s.prev (s.owners + 1) s.refinements s.over)
  grown_add a hw b = record { points = refl; refinements = refl; entries = record { most = omega arith; within = λ z. omega arith }; up = omega arith; grew = λ z. refl }

  pub grown_full : s.over ≡ false → Grown room s (trace s.points s.last s.prev (s.owners + 1) s.refinements true)
  grown_full a =
      record {
        points = refl;
        refinements = refl;
        entries = record { most = omega (arith, h.within a); within = λ z. absurd (clash refl z) };
        up = omega arith;
        grew = λ z. refl;
      }

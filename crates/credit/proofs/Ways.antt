-- Each way through the functions of `credit`, and each turn of its loop, over plain values. Assumes nothing.
use mathlib.Core.Path.{◌≡◌, refl, sym, ap, ◌∙◌, subst}
use mathlib.Core.Logic.{⊎_elim}
use mathlib.Core.Bool.{Bool, true, false}
use mathlib.Core.List.{List, [], ◌∷◌, ◌++◌, map}
use Prim.Native.Nat.{ℕ, zero, suc, ◌+◌, ◌-◌, ◌≤◌, ◌<◌, min}
use native.Mathlib.Nat.{not-suc-le-zero, le_of_suc-le-suc}
use native.Mathlib.Omega.{arith}
use lib.Seq.{take_all}
use lib.ListN.{length, get_or, set, drop, get_or-eq_default, drop_of_length-le, length-drop}
use lib.Dec.{eqb}
use lib.Ieee.{Float}
use Rattle.lists.specs.Lists.{cons_if, filter}
use Rattle.lists.specs.Parts.{part}
use Rattle.lists.proofs.Cases.{lt_or_le}
use Rattle.geom.specs.Constants.{nano}
use Rattle.geom.specs.declared.Vec2.{Vec2}
use Rattle.site.specs.Tables.{owner_at}
use Rattle.room.specs.declared.Rooms.{Rooms}
use Rattle.room.specs.declared.LocalEdge.{LocalEdge}
use Rattle.room.specs.Records.{edge_at}
use Rattle.index.specs.Casting.{ties_at}
use Rattle.lists.proofs.Parts.{part_rest, part_none, drop_here}
use Rattle.index.proofs.Walking.{cut_none}
use Rattle.outline.specs.declared.Trace.{Trace}
use Rattle.outline.specs.Outline.{Own, owned, own_of, Room, Grown}
use Rattle.outline.proofs.Ways.{own_over, own_add, own_full, grown_over, grown_add, grown_full}
use Rattle.credit.specs.Credit.{firsts_of, tied_numbers, own_all, Raised, Credited}

-- ---- a mark
module _ (marks : List ℕ) (p : ℕ) where
  -- what is read there does not go by what stands for a place past the end
  at_any : (l : List ℕ) (i a b : ℕ) → i < length l → get_or l i a ≡ get_or l i b
  at_any [] i a b h = absurd (not-suc-le-zero h)
  at_any (x ∷ l) zero a b h = refl
  at_any (x ∷ l) (suc i) a b h = at_any l i a b (le_of_suc-le-suc h)

  pub free_read : p < length marks → eqb (get_or marks p 0) 0 ≡ eqb (get_or marks p 1) 0
  free_read h = ap (λ (n : ℕ). eqb n 0) (at_any marks p 0 1 h)

  pub free_past : length marks ≤ p → false ≡ eqb (get_or marks p 1) 0
  free_past h = sym (ap (λ (n : ℕ). eqb n 0) (get_or-eq_default marks 1 h))

-- ---- one edge
module _ (k : Rooms) (floats : List Float) (words owners : List ℕ) (o dir : Vec2) (t : Float) (i room : ℕ) (marks mine : List ℕ) (s : Trace) where
  abbrev f : LocalEdge
  f = edge_at k floats words i

  abbrev Goes : List ℕ → List ℕ → Trace → Type 0
  Goes mine' marks' r = (l : List ℕ) → own_all room owners (firsts_of owners mine' l) marks' r ≡ own_all room owners (firsts_of owners mine (cons_if (ties_at nano o dir t f) f.edge l)) marks s

  module _ {q : Bool} (hq : q ≡ ties_at nano o dir t (edge_at k floats [] i)) where
    tie_so : ties_at nano o dir t f ≡ q
    unfolding ties_at edge_at
    tie_so = sym hq

    pub one_far : q ≡ false → Goes mine marks s
    one_far h l = rw (tie_so ∙ h)

    module _ (h : q ≡ true) {n m a p : ℕ} (hn : n ≡ (edge_at k [] words i).edge) (hm : m ≡ n) (ha : a ≡ owner_at owners m) (hp : p ≡ a) {z : Bool} (hz : z ≡ eqb (get_or mine p 1) 0) where
      number_is : n ≡ f.edge
      unfolding edge_at
      number_is = hn

      owner_is : p ≡ owner_at owners f.edge
      owner_is = hp ∙ ha ∙ ap (owner_at owners) (hm ∙ number_is)

      free_is : eqb (get_or mine (owner_at owners f.edge) 1) 0 ≡ z
      free_is = ap (λ (j : ℕ). eqb (get_or mine j 1) 0) (sym owner_is) ∙ sym hz

      pub one_had : z ≡ false → Goes mine marks s
      one_had e l = rw (tie_so ∙ h, free_is ∙ e)

      pub one_new : z ≡ true → {mine' marks' : List ℕ} {r : Trace} → mine' ≡ set mine p 1 → owned marks' r ≡ own_of room owners n marks s → Goes mine' marks' r
      one_new e {mine'} {marks'} {r} hmine hown l =
          let w : owned marks' r ≡ own_of room owners f.edge marks s = hown ∙ ap (λ (j : ℕ). own_of room owners j marks s) number_is in
          let v : mine' ≡ set mine (owner_at owners f.edge) 1 = hmine ∙ ap (λ (j : ℕ). set mine j 1) owner_is in
          ap (λ (q : Own). own_all room owners (firsts_of owners mine' l) q.marks q.at) w
          ∙ ap (λ (y : List ℕ). own_all room owners (firsts_of owners y l) (own_of room owners f.edge marks s).marks (own_of room owners f.edge marks s).at) v
          ∙ rw (tie_so ∙ h, free_is ∙ e)

-- ---- the edges that are gone through: the words at these places, as far as there are any
pub tied_is : (from to : ℕ) (l : List ℕ) {a b : ℕ} → b ≡ min to (length l) → a ≡ min from b → part a b l ≡ part from to l
tied_is from to l {a} {b} hb ha = ⊎_elim some none (lt_or_le from b)
  where
    some : from < b → part a b l ≡ part from to l
    some h =
        let e : a ≡ from = omega arith in
        rw e (⊎_elim
        (λ (g : to < length l). let f : b ≡ to = omega arith in ap (λ (q : ℕ). part from q l) f)
        (λ (g : length l ≤ to).
        let f : b ≡ length l = omega arith in
        let n : length (drop from l) ≤ to - from = simp length-drop (omega arith) in
        ap (λ (q : ℕ). part from q l) f ∙ part_rest from l ∙ sym (take_all (to - from) (drop from l) n))
        (lt_or_le to (length l)))

    none : b ≤ from → part a b l ≡ part from to l
    none h = part_none a b l (omega arith) ∙ sym (cut_none from to l (omega arith))

-- ---- one turn
module _ (k : Rooms) (floats : List Float) (words owners tied : List ℕ) (o dir : Vec2) (t : Float) where
  abbrev left_of : ℕ → List ℕ
  left_of j = tied_numbers o dir t (map (edge_at k floats words) (drop j tied))

  left_more : (e : LocalEdge) (l : List LocalEdge) → tied_numbers o dir t (e ∷ l) ≡ cons_if (ties_at nano o dir t e) e.edge (tied_numbers o dir t l)
  unfolding tied_numbers
  left_more e l = by (ties_at nano o dir t e) (filter (ties_at nano o dir t) l)
    where
      by : (q : Bool) (m : List LocalEdge) → map (λ (x : LocalEdge). x.edge) (cons_if q e m) ≡ cons_if q e.edge (map (λ (x : LocalEdge). x.edge) m)
      by true m = refl
      by false m = refl

  left_here : (j : ℕ) → j < length tied → left_of j ≡ cons_if (ties_at nano o dir t (edge_at k floats words (get_or tied j 0))) (edge_at k floats words (get_or tied j 0)).edge (left_of (j + 1))
  left_here j h = ap (λ (l : List ℕ). tied_numbers o dir t (map (edge_at k floats words) l)) (drop_here tied j 0 h) ∙ left_more (edge_at k floats words (get_or tied j 0)) (map (edge_at k floats words) (drop (j + 1) tied))

  left_none : (j : ℕ) → length tied ≤ j → left_of j ≡ []
  unfolding tied_numbers
  left_none j h = rw (drop_of_length-le tied h)

  module _ (room : ℕ) (all : Own) where
    pub turn : (j i : ℕ) → j < length tied → i ≡ get_or tied j 0 → (mine marks : List ℕ) (s : Trace) → own_all room owners (firsts_of owners mine (left_of j)) marks s ≡ all
        → (mine' marks' : List ℕ) (r : Trace) → Goes k floats words owners o dir t i room marks mine s mine' marks' r → own_all room owners (firsts_of owners mine' (left_of (j + 1))) marks' r ≡ all
    turn j i h hi mine marks s inv mine' marks' r goes =
        goes (left_of (j + 1))
        ∙ ap (λ (n : ℕ). own_all room owners (firsts_of owners mine (cons_if (ties_at nano o dir t (edge_at k floats words n)) (edge_at k floats words n).edge (left_of (j + 1)))) marks s) hi
        ∙ ap (λ (l : List ℕ). own_all room owners (firsts_of owners mine l) marks s) (sym (left_here j h))
        ∙ inv

    pub turned : (j : ℕ) (mine marks : List ℕ) (s : Trace) → length tied ≤ j → own_all room owners (firsts_of owners mine (left_of j)) marks s ≡ all → owned marks s ≡ all
    turned j mine marks s h inv = sym (ap (λ (l : List ℕ). own_all room owners (firsts_of owners mine l) marks s) (left_none j h)) ∙ inv

-- ---- the counts
own_counted : (room : ℕ) (owners : List ℕ) (e : ℕ) (marks : List ℕ) (s : Trace) → Room room s → Grown room s (own_of room owners e marks s).at
own_counted room owners e marks s h = by s.over refl
  where
    by : (b : Bool) → s.over ≡ b → Grown room s (own_of room owners e marks s).at
    by true k = subst (λ (q : Own). Grown room s q.at) (own_over room owners e marks s k) (grown_over h k)
    by false k =
        ⊎_elim (λ m. subst (λ (q : Own). Grown room s q.at) (own_add room owners e marks s k m) (grown_add h k refl m))
        (λ m. subst (λ (q : Own). Grown room s q.at) (own_full room owners e marks s k m) (grown_full h k)) (lt_or_le s.owners room)

-- of any number of entries
pub all_raised : (room : ℕ) (owners l marks : List ℕ) (s : Trace) → Room room s → Raised room s (own_all room owners l marks s).at
all_raised room owners [] marks s h = record { points = refl; refinements = refl; entries = h; up = omega arith }
all_raised room owners (e ∷ l) marks s h =
    let g = own_counted room owners e marks s h in
    let q = own_of room owners e marks s in
    let r = all_raised room owners l q.marks q.at g.entries in
    record { points = r.points ∙ g.points; refinements = r.refinements ∙ g.refinements; entries = r.entries; up = omega (arith, g.up, r.up) }

pub all_credited : (room : ℕ) (owners : List ℕ) (e : ℕ) (l marks : List ℕ) (s : Trace) → Room room s → Credited room s (own_all room owners (e ∷ l) marks s).at
all_credited room owners e l marks s h =
    let g = own_counted room owners e marks s h in
    let q = own_of room owners e marks s in
    let r = all_raised room owners l q.marks q.at g.entries in
    record { raised = all_raised room owners (e ∷ l) marks s h; grew = λ k. omega (arith, g.grew k, r.up) }

-- the entries of two lists, one behind the other
pub all_joined : (room : ℕ) (owners l m marks : List ℕ) (s : Trace) → own_all room owners (l ++ m) marks s ≡ own_all room owners m (own_all room owners l marks s).marks (own_all room owners l marks s).at
all_joined room owners [] m marks s = refl
all_joined room owners (e ∷ l) m marks s = all_joined room owners l m (own_of room owners e marks s).marks (own_of room owners e marks s).at

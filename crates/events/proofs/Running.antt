-- The turns of going through the events in order, and its end.
-- Assumes nothing.
use mathlib.Core.Path.{◌≡◌, refl, sym, ap, ◌∙◌, subst}
use mathlib.Core.Logic.{⊎_elim}
use mathlib.Core.Bool.{Bool, true, false, cond, true≢false}
use mathlib.Core.List.{List, [], ◌∷◌, ◌++◌, append_assoc}
use Prim.Native.Nat.{ℕ, zero, suc, ◌+◌, ◌-◌, ◌≤◌, ◌<◌}
use native.Mathlib.Numerals.{add-one}
use native.Mathlib.Omega.{arith}
use lib.Dec.{ltb}
use lib.Ieee.{Float}
use lib.ListN.{length, set, take, drop, length-append, length-drop}
use lib.Seq.{length-take-le, drop-length, take-suc-set, drop-set-add}
use borrow.Author.Tests.{lt-ltb, le-ltb}
use Rattle.lists.specs.Parts.{part, Only}
use Rattle.lists.proofs.Cases.{lt_or_le}
use Rattle.lists.proofs.Joined.{listed_ext, length_listed}
use Rattle.lists.proofs.Only.{only_set}
use Rattle.lists.proofs.Parts.{part_none}
use Rattle.room.specs.declared.Rooms.{Rooms}
use Rattle.room.specs.declared.Event.{Event}
use Rattle.room.specs.Layout.{corners_w, Fit}
use Rattle.sorts.proofs.Merging.{length_sort}
use Rattle.events.specs.Spots.{Spot, opened, is_near, is_aside, met, closed, gather, gathered, aside_count}
use Rattle.events.specs.Held.{end_at, spot_at, spots_in, spot_now, open_of, join_of, Stands, Closed, Gathered, Done}
use Rattle.events.specs.declared.Open.{Open}
use Rattle.events.specs.declared.Merging.{Merging}
use Rattle.events.proofs.Reading.{ends_stay, spots_stay}

-- ---- counting corners

pub corners_append : (xs ys : List Spot) → aside_count (xs ++ ys) ≡ aside_count xs + aside_count ys
corners_append [] ys = omega arith
corners_append (x ∷ xs) ys = omega (arith, corners_append xs ys)

-- the open event's corners are not lost
corners_open : (s : Spot) (es : List Event) → length s.extras ≤ aside_count (gather s es)
corners_open s [] = omega (arith, length_sort ltb s.extras)
corners_open s (e ∷ es) = by (is_near s.angle e.angle) (corners_open (met s e) es)
  where
    more : (b : Bool) → is_aside s.vertex e.vertex ≡ b → length s.extras ≤ length (met s e).extras
    more true q = rw q (simp length-append (omega arith))
    more false q = rw q (omega arith)

    by : (n : Bool) → length (met s e).extras ≤ aside_count (gather (met s e) es) → length s.extras ≤ aside_count (cond n (gather (met s e) es) (closed s ∷ gather (opened e) es))
    by true h = omega (arith, more (is_aside s.vertex e.vertex) refl)
    by false h = omega (arith, length_sort ltb s.extras)

-- ---- steps of the definition

gather_near : (s : Spot) (e : Event) (es : List Event) → is_near s.angle e.angle ≡ true → gather s (e ∷ es) ≡ gather (met s e) es
gather_near s e es h = rw h

gather_far : (s : Spot) (e : Event) (es : List Event) → is_near s.angle e.angle ≡ false → gather s (e ∷ es) ≡ closed s ∷ gather (opened e) es
gather_far s e es h = rw h

-- a part that grows by a store at its end
part_more : (l : List ℕ) (a b v : ℕ) → a ≤ b → b < length l → part a (b + 1) (set l b v) ≡ part a b l ++ (v ∷ [])
part_more l a b v h k =
    let s : a + (b - a) ≡ b = omega arith in
    let n : b + 1 - a ≡ suc (b - a) = omega arith in
    ap (λ (q : ℕ). take q (drop a (set l b v))) n
    ∙ ap (λ (q : ℕ). take (suc (b - a)) (drop a (set l q v))) (sym s)
    ∙ ap (take (suc (b - a))) (drop-set-add a l (b - a) v)
    ∙ take-suc-set (drop a l) (b - a) v (simp length-drop (omega arith))

same_spot : (a : Float) (v v' : ℕ) (s s' : Bool) (l l' : List ℕ) → v ≡ v' → l ≡ l' → ◌≡◌ {A = Spot} (record { angle = a; vertex = v; side = s; extras = l }) (record { angle = a; vertex = v'; side = s; extras = l' })
same_spot a v v' s s' l l' e q = rw (e, q)

-- ---- the first event is opened

pub gather_first : (k : Rooms) (f : List Float) (w : List ℕ) (all : List Event) (e : Event) → all ≡ e ∷ drop 1 all → Gathered k all f w (open_of e 0 0) 1
gather_first k f w all e d =
    let z : part (corners_w k + 0) (corners_w k + 0) w ≡ [] = part_none (corners_w k + 0) (corners_w k + 0) w (omega arith) in
    record {
      stands = record { within = omega arith; room = omega arith; ends = λ i h. low i h; last = refl };
      some = omega arith;
      sum = refl;
      whole = ap (λ (l : List ℕ). gather (record { angle = e.angle; vertex = e.vertex; side = e.side; extras = l }) (drop 1 all)) z ∙ sym (ap gathered d);
    }
  where
    low : (i : ℕ) → i ≤ 0 → end_at k f w i ≤ 0
    low zero h = omega arith
    low (suc i) h = absurd (omega arith)

-- ---- an event more: all is e and the rest from t on

module _ (k : Rooms) (all : List Event) (f : List Float) (w : List ℕ) (g : Open) (t : ℕ) (s : Gathered k all f w g t) (e : Event) (d : drop t all ≡ e ∷ drop (t + 1) all) where
  pub joined : is_near g.angle e.angle ≡ true → is_aside g.vertex e.vertex ≡ false → Gathered k all f w (join_of g e g.corners) (t + 1)
  joined n b = record {
    stands = record { within = omega (arith, s.stands.within); room = omega (arith, s.stands.room); ends = s.stands.ends; last = s.stands.last };
    some = omega (arith, s.some);
    sum = s.sum;
    whole =
        ap (λ (q : Spot). spots_in k f w g.spots ++ gather q (drop (t + 1) all)) same
        ∙ ap (λ (q : List Spot). spots_in k f w g.spots ++ q) (sym (ap (gather (spot_now k w g)) d ∙ gather_near (spot_now k w g) e (drop (t + 1) all) n))
        ∙ s.whole;
  }
    where
      same : spot_now k w (join_of g e g.corners) ≡ met (spot_now k w g) e
      same = rw b

  pub kept_aside : Fit k (length f) (length w) → g.spots < k.events → is_near g.angle e.angle ≡ true → is_aside g.vertex e.vertex ≡ true → g.corners < k.corners
      → {w' : List ℕ} → w' ≡ set w (corners_w k + g.corners) e.vertex → Gathered k all f w' (join_of g e (g.corners + 1)) (t + 1)
  kept_aside fit fr n b h {w'} q =
      let x = corners_w k + g.corners in
      let o : Only x (x + 1) w w' = rw q (only_set x (x + 1) w x e.vertex (omega arith) (omega arith)) in
      let st : Stands k f w g = s.stands in
      let ha : corners_w k + g.first ≤ x = omega (arith, st.within) in
      let en : (i : ℕ) → i ≤ g.spots → end_at k f w' i ≡ end_at k f w i = ends_stay k f w w' g st x (x + 1) ha o fr in
      let sp : spots_in k f w' g.spots ≡ spots_in k f w g.spots = spots_stay k f w w' g st x (x + 1) ha o fr in
      record {
        stands = record {
          within = omega (arith, st.within);
          room = omega arith;
          ends = λ i l. omega (arith, en i l, st.ends i l);
          last = en g.spots (omega arith) ∙ st.last;
        };
        some = omega (arith, s.some);
        sum = ap aside_count sp ∙ s.sum;
        whole =
            ap (λ (l : List Spot). l ++ gather (spot_now k w' (join_of g e (g.corners + 1))) (drop (t + 1) all)) sp
            ∙ ap (λ (l : Spot). spots_in k f w g.spots ++ gather l (drop (t + 1) all)) same
            ∙ ap (λ (l : List Spot). spots_in k f w g.spots ++ l) (sym (ap (gather (spot_now k w g)) d ∙ gather_near (spot_now k w g) e (drop (t + 1) all) n))
            ∙ s.whole;
      }
    where
      grown : part (corners_w k + g.first) (corners_w k + (g.corners + 1)) w' ≡ part (corners_w k + g.first) (corners_w k + g.corners) w ++ (e.vertex ∷ [])
      grown =
          let z : corners_w k + (g.corners + 1) ≡ corners_w k + g.corners + 1 = omega arith in
          ap (λ (y : ℕ). part (corners_w k + g.first) y w') z
          ∙ ap (part (corners_w k + g.first) (corners_w k + g.corners + 1)) q
          ∙ part_more w (corners_w k + g.first) (corners_w k + g.corners) e.vertex (omega (arith, s.stands.within)) (omega (arith, fit.words_fit))

      same : spot_now k w' (join_of g e (g.corners + 1)) ≡ met (spot_now k w g) e
      same = rw (b, grown)

  -- there is no room for it
  pub too_many : Fit k (length f) (length w) → is_near g.angle e.angle ≡ true → is_aside g.vertex e.vertex ≡ true → k.corners ≤ g.corners → k.corners < aside_count (gathered all)
  too_many fit n b h =
      let a = corners_w k + g.first in
      let z = corners_w k + g.corners in
      let st : Stands k f w g = s.stands in
      let l : length (part a z w) ≡ z - a = length-take-le (z - a) (drop a w) (simp length-drop (omega (arith, fit.words_fit, st.room))) in
      let m : length (met (spot_now k w g) e).extras ≡ suc (length (part a z w)) = rw b (simp length-append (omega arith)) in
      let c : aside_count (gathered all) ≡ aside_count (spots_in k f w g.spots) + aside_count (gather (met (spot_now k w g) e) (drop (t + 1) all)) =
      ap aside_count (sym s.whole) ∙ corners_append (spots_in k f w g.spots) (gather (spot_now k w g) (drop t all))
      ∙ ap (λ (q : List Spot). aside_count (spots_in k f w g.spots) + aside_count q) (ap (gather (spot_now k w g)) d ∙ gather_near (spot_now k w g) e (drop (t + 1) all) n) in
      omega (arith, l, m, c, s.sum, st.within, st.room, corners_open (met (spot_now k w g) e) (drop (t + 1) all))

-- ---- an event is closed

module _ (k : Rooms) (f f' : List Float) (w w' : List ℕ) (g : Open) (fit : Fit k (length f) (length w)) (st : Stands k f w g) (c : Closed k g f w f' w') where
  pub one_more : spots_in k f' w' (g.spots + 1) ≡ spots_in k f w g.spots ++ (closed (spot_now k w g) ∷ [])
  one_more =
      ap (spots_in k f' w') (add-one g.spots)
      ∙ ap (λ (q : Spot). spots_in k f' w' g.spots ++ (q ∷ [])) c.spot
      ∙ ap (λ (q : List Spot). q ++ (closed (spot_now k w g) ∷ [])) (listed_ext (spot_at k f' w') (spot_at k f w) g.spots c.before)

  pub corners_more : aside_count (spots_in k f w g.spots) ≡ g.first → aside_count (spots_in k f' w' (g.spots + 1)) ≡ g.corners
  corners_more h =
      let a = corners_w k + g.first in
      let z = corners_w k + g.corners in
      let l : length (part a z w) ≡ z - a = length-take-le (z - a) (drop a w) (simp length-drop (omega (arith, fit.words_fit, st.room))) in
      ap aside_count one_more ∙ corners_append (spots_in k f w g.spots) (closed (spot_now k w g) ∷ []) ∙ omega (arith, h, l, length_sort ltb (part a z w), st.within)

  last_end : end_at k f' w' (g.spots + 1) ≡ g.corners
  last_end = ap (end_at k f' w') (add-one g.spots) ∙ c.last

  ends_closed : (i : ℕ) → i ≤ g.spots + 1 → end_at k f' w' i ≤ g.corners
  ends_closed i h = ⊎_elim below above (lt_or_le i (g.spots + 1))
    where
      below : i < g.spots + 1 → end_at k f' w' i ≤ g.corners
      below lo = omega (arith, c.ends i (omega arith), st.ends i (omega arith), st.within)

      above : g.spots + 1 ≤ i → end_at k f' w' i ≤ g.corners
      above hi = let q : g.spots + 1 ≡ i = omega arith in subst (λ (j : ℕ). end_at k f' w' j ≤ g.corners) q (omega (arith, last_end))

  pub next_open : (all : List Event) (t : ℕ) → Gathered k all f w g t → (e : Event) → drop t all ≡ e ∷ drop (t + 1) all → is_near g.angle e.angle ≡ false
      → Gathered k all f' w' (open_of e g.corners (g.spots + 1)) (t + 1)
  next_open all t s e d n =
      let z : part (corners_w k + g.corners) (corners_w k + g.corners) w' ≡ [] = part_none (corners_w k + g.corners) (corners_w k + g.corners) w' (omega arith) in
      record {
        stands = record { within = omega arith; room = st.room; ends = ends_closed; last = last_end };
        some = omega (arith, s.some);
        sum = corners_more s.sum;
        whole =
            ap (λ (l : List ℕ). spots_in k f' w' (g.spots + 1) ++ gather (record { angle = e.angle; vertex = e.vertex; side = e.side; extras = l }) (drop (t + 1) all)) z
            ∙ ap (λ (q : List Spot). q ++ gather (opened e) (drop (t + 1) all)) one_more
            ∙ append_assoc (spots_in k f w g.spots) (closed (spot_now k w g) ∷ []) (gather (opened e) (drop (t + 1) all))
            ∙ ap (λ (q : List Spot). spots_in k f w g.spots ++ q) (sym (ap (gather (spot_now k w g)) d ∙ gather_far (spot_now k w g) e (drop (t + 1) all) n))
            ∙ s.whole;
      }

  -- the last one
  pub all_closed : (all : List Event) → Gathered k all f w g (length all) → (r : Merging) → r.over ≡ false → r.unmerged ≡ length all → r.events ≡ g.spots + 1 → r.corners ≡ g.corners
      → Done k all f' w' r
  all_closed all s r eo eu ee ec =
      let p : spots_in k f' w' (g.spots + 1) ≡ gathered all =
      one_more ∙ ap (λ (l : List Event). spots_in k f w g.spots ++ gather (spot_now k w g) l) (sym (drop-length all)) ∙ s.whole in
      let q : aside_count (gathered all) ≡ g.corners = ap aside_count (sym p) ∙ corners_more s.sum in
      record {
        over_is = eo ∙ sym (le-ltb k.corners (aside_count (gathered all)) (omega (arith, q, st.room)));
        unmerged_is = eu;
        events_are = λ _. ee ∙ sym (many (g.spots + 1)) ∙ ap length p;
        corners_are = λ _. ec ∙ sym q;
        spots_are = λ _. ap (spots_in k f' w') ee ∙ p;
        ends_are = λ _ i h. omega (arith, ends_closed i (omega arith), st.room);
      }
    where
      many : (n : ℕ) → length (spots_in k f' w' n) ≡ n
      many n = length_listed (spot_at k f' w') n

-- more corners than there is room for
pub over_done : (k : Rooms) (all : List Event) (f : List Float) (w : List ℕ) (r : Merging) → k.corners < aside_count (gathered all) → r.over ≡ true → r.unmerged ≡ length all → Done k all f w r
over_done k all f w r h eo eu = record {
  over_is = eo ∙ sym (lt-ltb k.corners (aside_count (gathered all)) h);
  unmerged_is = eu;
  events_are = λ q. absurd (true≢false (sym eo ∙ q));
  corners_are = λ q. absurd (true≢false (sym eo ∙ q));
  spots_are = λ q. absurd (true≢false (sym eo ∙ q));
  ends_are = λ q. absurd (true≢false (sym eo ∙ q));
}

-- The events read in the order of their angles are the events sorted by angle; and what merging them comes to.
-- Assumes nothing.
use mathlib.Core.Path.{◌≡◌, refl, sym, ap, ◌∙◌}
use mathlib.Core.Logic.{inl}
use mathlib.Core.Bool.{Bool, false, ◌||◌}
use mathlib.Core.List.{List, map}
use Prim.Native.Nat.{ℕ, zero, suc, ◌+◌, ◌≤◌, ◌<◌}
use native.Mathlib.Omega.{arith}
use lib.Dec.{ltb}
use lib.Ieee.{Float, nan}
use lib.ListN.{length, get_or, length-map, get_or-map}
use lib.Seq.{ext_get_or}
use borrow.Author.Tests.{le-ltb}
use Rattle.lists.specs.Lists.{listed}
use Rattle.lists.specs.Parts.{part, Only}
use Rattle.lists.proofs.Joined.{length_listed, get_d_listed, listed_ext}
use Rattle.lists.proofs.Members.{all_at}
use Rattle.lists.proofs.Only.{only_part, only_trans, only_wider}
use Rattle.lists.proofs.Parts.{get_d_part, get_d_has}
use Rattle.room.specs.declared.Rooms.{Rooms}
use Rattle.room.specs.declared.Event.{Event}
use Rattle.room.specs.Layout.{events_f, merged_f, samples_f, events_w, turns_w, merged_w, starts_w, Fit}
use Rattle.room.specs.Records.{event_at, events_in}
use Rattle.room.proofs.Kept.{event_kept}
use Rattle.sorts.specs.Sort.{sort}
use Rattle.sorts.specs.By.{key_order}
use Rattle.sorts.specs.Fronts.{Ordered}
use Rattle.sorts.proofs.Keyed.{read_order, length_order, order_below}
use Rattle.events.specs.Spots.{by_angle, gathered, spots_of, aside_count}
use Rattle.events.specs.Held.{turn_at, Frame, Turns, EndsBelow, Done, Merges}
use Rattle.events.specs.declared.Merging.{Merging}

-- a list read through a rule, place by place
pub map_listed : {A : Type 0} (F : ℕ → A) (l : List ℕ) (n : ℕ) → length l ≡ n → listed (λ t. F (get_or l t 0)) n ≡ map F l
map_listed {A} F l n e =
    let G : ℕ → A = λ t. F (get_or l t 0) in
    ext_get_or (F 0) (listed G n) (map F l) (length_listed G n ∙ sym e ∙ sym (length-map l F))
    (λ i h. get_d_listed G n i (F 0) (omega (arith, length_listed G n)) ∙ sym (get_or-map F l i 0))

module _ (k : Rooms) (f : List Float) (w w1 : List ℕ) (m : ℕ) (fit : Fit k (length f) (length w)) (hm : m ≤ k.events)
    (o : Ordered (key_order (part (events_f k) (events_f k + m) f) m) (turns_w k) (merged_w k) w w1) where
  place : (t : ℕ) → t < m → get_or w1 (turns_w k + t) 0 ≡ get_or (key_order (part (events_f k) (events_f k + m) f) m) t 0
  place t h =
      let l = key_order (part (events_f k) (events_f k + m) f) m in
      get_d_has w1 (turns_w k) l t 0 o.list (omega (arith, length_order (part (events_f k) (events_f k + m) f) m))

  low : (t : ℕ) → t < m → get_or w1 (turns_w k + t) 0 < m
  low t h =
      let keys = part (events_f k) (events_f k + m) f in
      omega (arith, place t h, all_at (λ i. i < m) (key_order keys m) t 0 (order_below keys m) (omega (arith, length_order keys m)))

  pub turns : 0 < m → Turns k m f w1
  turns h = record {
    fit = record { floats_fit = fit.floats_fit; words_fit = omega (arith, fit.words_fit, o.only.long) };
    some = h;
    most = hm;
    below = λ t l. omega (arith, low t l);
  }

  reads : (i : ℕ) → i < m → get_or (part (events_f k) (events_f k + m) f) i nan ≡ (event_at k f w i).angle
  unfolding event_at
  reads i h = get_d_part (events_f k) (events_f k + m) f i nan (omega arith)

  pub in_order : listed (turn_at k f w1) m ≡ sort by_angle (events_in k f w m)
  in_order =
      let keys = part (events_f k) (events_f k + m) f in
      listed_ext (turn_at k f w1) (λ t. event_at k f w (get_or (key_order keys m) t 0)) m same
      ∙ map_listed (event_at k f w) (key_order keys m) m (length_order keys m)
      ∙ read_order (event_at k f w) (λ (e : Event). e.angle) keys m reads
    where
      same : (t : ℕ) → t < m → turn_at k f w1 t ≡ event_at k f w (get_or (key_order (part (events_f k) (events_f k + m) f) m) t 0)
      same t h =
          event_kept k f f w w1 (get_or w1 (turns_w k + t) 0) (omega (arith, low t h)) refl (only_part (events_w k) (turns_w k) o.only (inl (omega arith))) ∙ ap (event_at k f w) (place t h)

  pub merges : (f' : List Float) (w' : List ℕ) (r : Merging) → Done k (listed (turn_at k f w1) m) f' w' r → Merges k (events_in k f w m) f' w' r
  unfolding spots_of
  merges f' w' r d =
      let e : listed (turn_at k f w1) m ≡ sort by_angle (events_in k f w m) = in_order in
      let n : length (events_in k f w m) ≡ m = length_listed (event_at k f w) m in
      let c : gathered (listed (turn_at k f w1) m) ≡ gathered (sort by_angle (events_in k f w m)) = ap gathered e in
      record {
        over_is = d.over_is ∙ ap (λ q. ltb k.corners (aside_count q)) c ∙ ap (λ (b : Bool). b || ltb k.corners (aside_count (gathered (sort by_angle (events_in k f w m))))) (sym (le-ltb k.events (length (events_in k f w m)) (omega arith)));
        unmerged_is = d.unmerged_is ∙ length_listed (turn_at k f w1) m ∙ sym n;
        events_are = λ q. d.events_are q ∙ ap length c;
        corners_are = λ q. d.corners_are q ∙ ap aside_count c;
        spots_are = λ q. d.spots_are q ∙ c;
        ends_are = d.ends_are;
      }

  pub framed : (f' : List Float) (w' : List ℕ) → Frame k f w1 f' w' → Only (merged_f k) (samples_f k) f f' × Only (turns_w k) (starts_w k) w w'
  framed f' w' p = (p.floats, only_trans (only_wider (turns_w k) (starts_w k) (omega arith) (omega arith) o.only) (only_wider (turns_w k) (starts_w k) (omega arith) (omega arith) p.words))

-- as the code has it: the stretches' ends are numbers that were worked out
pub ordered_at : (k : Rooms) (f : List Float) (w w1 : List ℕ) (m : ℕ) {a n c e : ℕ} → a ≡ events_f k → n ≡ m → c ≡ turns_w k → e ≡ merged_w k
    → Ordered (key_order (part a (a + n) f) n) c e w w1 → Ordered (key_order (part (events_f k) (events_f k + m) f) m) (turns_w k) (merged_w k) w w1
ordered_at k f w w1 m ea en ec ee o = rw (ea, en, ec, ee) at o

-- no event
none_ends : (k : Rooms) (f : List Float) (w : List ℕ) → EndsBelow k f w 0
none_ends k f w zero h = omega arith
none_ends k f w (suc i) h = absurd (omega arith)

pub merges_none : (k : Rooms) (f : List Float) (w : List ℕ) (m : ℕ) (f' : List Float) (w' : List ℕ) → m ≡ 0 → Merges k (events_in k f w m) f' w' (record { unmerged = 0; events = 0; corners = 0; over = false })
unfolding spots_of
merges_none k f w m f' w' e = rw e (record {
  over_is = sym (ap (λ (b : Bool). b || ltb k.corners 0) (le-ltb k.events 0 (omega arith)) ∙ le-ltb k.corners 0 (omega arith));
  unmerged_is = refl;
  events_are = λ _. refl;
  corners_are = λ _. refl;
  spots_are = λ _. refl;
  ends_are = λ _. none_ends k f' w';
})

-- The ways through the functions of `events`, as the code goes them.
-- Assumes nothing.
use mathlib.Core.Path.{◌≡◌, refl, sym, ap, ◌∙◌, subst}
use mathlib.Core.Bool.{Bool, true, false, ◌||◌}
use mathlib.Core.List.{List, ◌∷◌}
use Rattle.std.specs.Prelude.{Option, Some, None}
use Prim.Native.Nat.{ℕ, ◌+◌, ◌≤◌, ◌<◌}
use native.Mathlib.Omega.{arith}
use lib.Ieee.{Float}
use lib.ListN.{length, get_or, set, drop}
use Rattle.lists.specs.Lists.{listed}
use Rattle.lists.proofs.Joined.{length_listed}
use Rattle.room.specs.declared.Rooms.{Rooms}
use Rattle.room.specs.declared.Event.{Event}
use Rattle.room.specs.Layout.{turns_w, corners_w, Fit}
use Rattle.room.specs.Records.{event_at}
use Rattle.events.specs.Spots.{is_near, is_aside, kept_of, gathered, aside_count}
use Rattle.events.specs.Held.{turn_at, open_of, join_of, Closing, Closed, Frame, Gathered, Turns, Ends, Done}
use Rattle.events.specs.declared.Open.{Open}
use Rattle.events.proofs.Reading.{frame_refl, frame_trans, frame_corner, turn_kept, listed_here}
use Rattle.events.proofs.Running.{gather_first, joined, kept_aside, too_many, next_open, all_closed, over_done}

-- ---- reading and joining

pub turn_is : (k : Rooms) (f : List Float) (w : List ℕ) (t : ℕ) {a b i : ℕ} {r : Event} → a ≡ turns_w k → b ≡ t → i ≡ get_or w (a + b) 0 → r ≡ event_at k f w i → r ≡ turn_at k f w t
turn_is k f w t ea eb ei er = rw (er, ei, ea, eb)

pub join_is : (g : Open) (e : Event) (d : ℕ) {v : ℕ} → v ≡ kept_of g.vertex e.vertex
    → ◌≡◌ {A = Open} (record { angle = g.angle; vertex = v; side = g.side || e.side; first = g.first; corners = d; spots = g.spots }) (join_of g e d)
join_is g e d q = rw q

-- ---- the loop over the events in order

pub record Loop (k : Rooms) (f₀ : List Float) (w₀ : List ℕ) (m : ℕ) (f : List Float) (w : List ℕ) (g : Open) (t : ℕ) : Type 0 where
  pub frame : Frame k f₀ w₀ f w
  pub state : Gathered k (listed (turn_at k f₀ w₀) m) f w g t

module _ (k : Rooms) (f₀ : List Float) (w₀ : List ℕ) (m : ℕ) (tu : Turns k m f₀ w₀) where
  pub loop_first : {e : Event} {g : Open} → e ≡ turn_at k f₀ w₀ 0 → g ≡ open_of e 0 0 → Loop k f₀ w₀ m f₀ w₀ g 1
  loop_first {e} {g} q r =
      let F = turn_at k f₀ w₀ in
      record {
        frame = frame_refl k f₀ w₀;
        state = rw (r, q) (gather_first k f₀ w₀ (listed F m) (F 0) (listed_here F m 0 tu.some));
      }

  module _ (f : List Float) (w : List ℕ) (g : Open) (t : ℕ) (most : t ≤ m) (l : Loop k f₀ w₀ m f w g t) where
    pub fit_now : Fit k (length f) (length w)
    fit_now = record {
      floats_fit = omega (arith, tu.fit.floats_fit, l.frame.floats.long);
      words_fit = omega (arith, tu.fit.words_fit, l.frame.words.long);
    }

    pub can_close : Closing k f w g
    can_close = record { fit = fit_now; free = omega (arith, l.state.some, most, tu.most); stands = l.state.stands }

    -- none is left
    pub loop_end : m ≤ t → Gathered k (listed (turn_at k f₀ w₀) m) f w g (length (listed (turn_at k f₀ w₀) m))
    loop_end h = let e : t ≡ length (listed (turn_at k f₀ w₀) m) = omega (arith, most, length_listed (turn_at k f₀ w₀) m) in subst (Gathered k (listed (turn_at k f₀ w₀) m) f w g) e l.state

    module _ (h : t < m) {e : Event} (q : e ≡ turn_at k f w t) {n : Bool} (en : n ≡ is_near g.angle e.angle) where
      here : drop t (listed (turn_at k f₀ w₀) m) ≡ e ∷ drop (t + 1) (listed (turn_at k f₀ w₀) m)
      here =
          listed_here (turn_at k f₀ w₀) m t h
          ∙ ap (λ (x : Event). x ∷ drop (t + 1) (listed (turn_at k f₀ w₀) m)) (sym (q ∙ turn_kept k f₀ f w₀ w t l.frame (omega (arith, tu.most)) (tu.below t h)))

      pub loop_next : n ≡ false → {f' : List Float} {w' : List ℕ} {g' : Open} → Closed k g f w f' w' → g' ≡ open_of e g.corners (g.spots + 1) → Loop k f₀ w₀ m f' w' g' (t + 1)
      loop_next nt {f'} {w'} {g'} c r = record {
        frame = frame_trans l.frame c.frame;
        state = rw r (next_open k f f' w w' g fit_now l.state.stands c (listed (turn_at k f₀ w₀) m) t l.state e here (sym en ∙ nt));
      }

      module _ (ny : n ≡ true) {b : Bool} (eb : b ≡ is_aside g.vertex e.vertex) where
        pub loop_join : b ≡ false → {g' : Open} → g' ≡ join_of g e g.corners → Loop k f₀ w₀ m f w g' (t + 1)
        loop_join nt r = record {
          frame = l.frame;
          state = rw r (joined k (listed (turn_at k f₀ w₀) m) f w g t l.state e here (sym en ∙ ny) (sym eb ∙ nt));
        }

        pub loop_aside : b ≡ true → g.corners < k.corners → {a c : ℕ} {w' : List ℕ} {g' : Open} → a ≡ corners_w k → c ≡ g.corners → w' ≡ set w (a + c) e.vertex → g' ≡ join_of g e (g.corners + 1)
            → Loop k f₀ w₀ m f w' g' (t + 1)
        loop_aside bt hc {a} {c} {w'} {g'} ea ec ew r =
            let s : w' ≡ set w (corners_w k + g.corners) e.vertex = ew ∙ rw (ea, ec) in
            record {
              frame = frame_trans l.frame (frame_corner k f w g.corners e.vertex hc s);
              state = rw r (kept_aside k (listed (turn_at k f₀ w₀) m) f w g t l.state e here fit_now can_close.free (sym en ∙ ny) (sym eb ∙ bt) hc s);
            }

        pub loop_full : b ≡ true → k.corners ≤ g.corners → k.corners < aside_count (gathered (listed (turn_at k f₀ w₀) m))
        loop_full bt hc = too_many k (listed (turn_at k f₀ w₀) m) f w g t l.state e here fit_now (sym en ∙ ny) (sym eb ∙ bt) hc

-- ---- after it: the last event is closed, or there was no room

module _ (k : Rooms) (f₀ : List Float) (w₀ : List ℕ) (m : ℕ) (tu : Turns k m f₀ w₀) (f : List Float) (w : List ℕ) {o : Option Open}
    (e : Ends k (listed (turn_at k f₀ w₀) m) f w o) (p : Frame k f₀ w₀ f w) where
  pub full_done : o ≡ None → {n : ℕ} → n ≡ m → Done k (listed (turn_at k f₀ w₀) m) f w (record { unmerged = n; events = 0; corners = 0; over = true })
  full_done q {n} en =
      over_done k (listed (turn_at k f₀ w₀) m) f w (record { unmerged = n; events = 0; corners = 0; over = true }) (subst (Ends k (listed (turn_at k f₀ w₀) m) f w) q e) refl
      (en ∙ sym (length_listed (turn_at k f₀ w₀) m))

  module _ (g : Open) (q : o ≡ Some g) where
    last : Gathered k (listed (turn_at k f₀ w₀) m) f w g (length (listed (turn_at k f₀ w₀) m))
    last = subst (Ends k (listed (turn_at k f₀ w₀) m) f w) q e

    at_end : Loop k f₀ w₀ m f w g (length (listed (turn_at k f₀ w₀) m))
    at_end = record { frame = p; state = last }

    pub close_last : Closing k f w g
    close_last = can_close k f₀ w₀ m tu f w g (length (listed (turn_at k f₀ w₀) m)) (omega (arith, length_listed (turn_at k f₀ w₀) m)) at_end

    pub last_done : (f' : List Float) (w' : List ℕ) → Closed k g f w f' w' → {n s c : ℕ} → n ≡ m → s ≡ g.spots → c ≡ g.corners
        → Done k (listed (turn_at k f₀ w₀) m) f' w' (record { unmerged = n; events = s + 1; corners = c; over = false })
    last_done f' w' cl {n} {s} {c} en es ec =
        all_closed k f f' w w' g close_last.fit last.stands cl (listed (turn_at k f₀ w₀) m) last (record { unmerged = n; events = s + 1; corners = c; over = false })
        refl (en ∙ sym (length_listed (turn_at k f₀ w₀) m)) (ap (λ (x : ℕ). x + 1) es) ec

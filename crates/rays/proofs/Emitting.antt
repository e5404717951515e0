-- Lists that are counted on: none, one, and one after the other; and the samples of the events before i. `samples_bound`: S is at most
-- 2 E and the number of sides. Assumes nothing.
use mathlib.Core.Path.{◌≡◌, refl, sym, ap, ◌∙◌, subst}
use mathlib.Core.Logic.{inl}
use mathlib.Core.List.{List, [], ◌∷◌, ◌++◌, append-nil, append_assoc}
use Prim.Native.Nat.{ℕ, zero, suc, ◌+◌, ◌*◌, ◌≤◌, ◌<◌}
use native.Mathlib.Numerals.{add-one}
use native.Mathlib.Omega.{arith}
use lib.ListN.{length, length-append}
use lib.Ieee.{Float}
use Rattle.lists.specs.Lists.{bit, sum_to, joined}
use Rattle.lists.proofs.Counting.{bit_le}
use Rattle.lists.proofs.Only.{only_refl, only_trans, only_wider, only_part, stored_more}
use Rattle.cone.specs.declared.View.{View}
use Rattle.room.specs.declared.Rooms.{Rooms}
use Rattle.room.specs.declared.Sample.{Sample}
use Rattle.room.specs.Layout.{merged_f, samples_f, floats_for, merged_w, corners_w, samples_w, order_w}
use Rattle.room.specs.Records.{merged_at, SamplePut}
use Rattle.room.proofs.Kept.{merged_kept}
use Rattle.rays.specs.Samples.{Turn, rays_of, samples_of}
use Rattle.rays.specs.Stands.{turn_at, Held, Roomy, Emits, Eventful}
use Rattle.rays.proofs.Ways.{rays_few}

pub emits_none : (k : Rooms) (n : ℕ) (f : List Float) (w : List ℕ) → Emits k [] n n f w f w
emits_none k n f w = record {
  count = omega arith;
  held = λ l h. rw (append-nil l) h;
  floats = only_refl (samples_f k) (floats_for k) f;
  words = only_refl (samples_w k) (order_w k) w;
}

pub emits_join : (k : Rooms) (xs ys : List Sample) (n m r : ℕ) (f : List Float) (w : List ℕ) (f' : List Float) (w' : List ℕ) (f'' : List Float) (w'' : List ℕ)
    → Emits k xs n m f w f' w' → Emits k ys m r f' w' f'' w'' → Emits k (xs ++ ys) n r f w f'' w''
emits_join k xs ys n m r f w f' w' f'' w'' p q = record {
  count = omega (arith, p.count, q.count, length-append xs ys);
  held = λ l h. subst (Held k f'' w'' r) (append_assoc l xs ys) (q.held (l ++ xs) (p.held l h));
  floats = only_trans p.floats q.floats;
  words = only_trans p.words q.words;
}

module _ (k : Rooms) (n : ℕ) (s : Sample) (f : List Float) (w : List ℕ) where
  pub emits_one : n < k.samples → (f' : List Float) (w' : List ℕ) → SamplePut k n s f w f' w' → Emits k (s ∷ []) n (n + 1) f w f' w'
  emits_one g f' w' put = record {
    count = refl;
    held = λ l h. record {
      count = omega (arith, h.count, length-append l (s ∷ []));
      list = λ e. stored_more put.entry g ∙ ap (λ (q : List Sample). q ++ (s ∷ [])) (h.list (omega arith));
    };
    floats = only_wider (samples_f k) (floats_for k) (omega arith) (omega arith) put.floats;
    words = put.words;
  }

  pub emits_full : k.samples ≤ n → Emits k (s ∷ []) n (n + 1) f w f w
  emits_full g = record {
    count = refl;
    held = λ l h. record { count = omega (arith, h.count, length-append l (s ∷ [])); list = λ e. absurd (omega arith) };
    floats = only_refl (samples_f k) (floats_for k) f;
    words = only_refl (samples_w k) (order_w k) w;
  }

-- the room stays
pub roomy_at : (k : Rooms) (xs : List Sample) (m n r : ℕ) (f : List Float) (w : List ℕ) (f' : List Float) (w' : List ℕ) → Roomy k f w m → Emits k xs n r f w f' w' → (t : ℕ) → t ≤ m → Roomy k f' w' t
roomy_at k xs m n r f w f' w' p q t h = record {
  fit = record { floats_fit = omega (arith, p.fit.floats_fit, q.floats.long); words_fit = omega (arith, p.fit.words_fit, q.words.long) };
  small = omega (arith, p.small, h);
}

-- ---- the samples of the events before i
pub record Before (k : Rooms) (view : View) (events : ℕ) (f₀ : List Float) (w₀ : List ℕ) (f : List Float) (w : List ℕ) (n i : ℕ) : Type 0 where
  pub left : i ≤ events
  pub few : n ≤ 3 * i
  pub done : Emits k (samples_of view (turn_at k f₀ w₀) i) 0 n f₀ w₀ f w

module _ (k : Rooms) (view : View) (events : ℕ) (f₀ : List Float) (w₀ : List ℕ) (pre : Eventful k f₀ w₀ events) where
  pub before_none : Before k view events f₀ w₀ f₀ w₀ 0 0
  unfolding samples_of
  before_none = record { left = omega arith; few = omega arith; done = emits_none k 0 f₀ w₀ }

  module _ (f : List Float) (w : List ℕ) (n i : ℕ) (t : Before k view events f₀ w₀ f w n i) where
    pub before_room : events ≤ 4294967295 → i < events → Roomy k f w (n + 2)
    before_room u h = record {
      fit = record { floats_fit = omega (arith, pre.fit.floats_fit, t.done.floats.long); words_fit = omega (arith, pre.fit.words_fit, t.done.words.long) };
      small = omega (arith, t.few);
    }

    turn_kept : i < events → turn_at k f w i ≡ turn_at k f₀ w₀ i
    unfolding turn_at
    turn_kept h =
        let e : merged_at k f w i ≡ merged_at k f₀ w₀ i = merged_kept k f₀ f w₀ w i (omega (arith, pre.held)) (only_part (merged_f k) (samples_f k) t.done.floats (inl (omega arith)))
        (only_part (merged_w k) (corners_w k) t.done.words (inl (omega arith))) in
        ap (λ (m : _). record { angle = m.angle; side = m.side }) e

    pub before_more : (h : i < events) (f' : List Float) (w' : List ℕ) (r : ℕ) → Emits k (rays_of view i (turn_at k f w i)) n r f w f' w' → Before k view events f₀ w₀ f' w' r (i + 1)
    unfolding samples_of
    before_more h f' w' r e =
        let b : length (rays_of view i (turn_at k f w i)) ≤ 3 = omega (arith, rays_few view i (turn_at k f w i), bit_le (turn_at k f w i).side) in
        let g : Emits k (rays_of view i (turn_at k f₀ w₀ i)) n r f w f' w' = subst (λ (q : Turn). Emits k (rays_of view i q) n r f w f' w') (turn_kept h) e in
        record {
          left = omega arith;
          few = omega (arith, t.few, e.count, b);
          done = subst (λ (j : ℕ). Emits k (joined (λ i. rays_of view i (turn_at k f₀ w₀ i)) j) 0 r f₀ w₀ f' w') (sym (add-one i))
              (emits_join k (joined (λ i. rays_of view i (turn_at k f₀ w₀ i)) i) (rays_of view i (turn_at k f₀ w₀ i)) 0 n r f₀ w₀ f w f' w' t.done g);
        }

    pub before_all : events ≤ i → Emits k (samples_of view (turn_at k f₀ w₀) events) 0 n f₀ w₀ f w
    before_all h =
        let e : i ≡ events = omega (arith, t.left) in
        subst (λ (j : ℕ). Emits k (samples_of view (turn_at k f₀ w₀) j) 0 n f₀ w₀ f w) e t.done

-- S ≤ 2 E and the number of sides
pub samples_bound : (view : View) (turns : ℕ → Turn) (n : ℕ) → length (samples_of view turns n) ≤ 2 * n + sum_to (λ i. bit (turns i).side) n
unfolding samples_of
samples_bound view turns zero = omega arith
samples_bound view turns (suc n) =
    omega (arith, length-append (joined (λ i. rays_of view i (turns i)) n) (rays_of view n (turns n)), rays_few view n (turns n), samples_bound view turns n)

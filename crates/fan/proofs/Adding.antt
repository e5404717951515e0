-- Laws of `Added`: nothing added, one thing after another, a front edge or an event written or only counted. Assumes nothing.
use mathlib.Core.Path.{◌≡◌, sym, ap, ◌∙◌}
use mathlib.Core.Logic.{inl, inr}
use mathlib.Core.Bool.{Bool, ◌||◌, or-false, or_assoc}
use mathlib.Core.List.{List, [], ◌++◌, append-nil, append_assoc}
use Prim.Native.Nat.{ℕ, ◌+◌, ◌≤◌, ◌<◌}
use native.Mathlib.Nat.{zero-add, add-zero, add_assoc}
use native.Mathlib.Omega.{arith}
use lib.ListN.{length-append}
use lib.Ieee.{Float}
use Rattle.lists.proofs.Only.{only_refl, only_trans, only_wider, only_part, stored_more}
use Rattle.room.specs.declared.Rooms.{Rooms}
use Rattle.room.specs.declared.LocalEdge.{LocalEdge}
use Rattle.room.specs.declared.Event.{Event}
use Rattle.room.specs.Layout.{merged_f, events_f, edges_w, nearest_w, events_w, turns_w}
use Rattle.room.specs.Records.{edges_in, events_in, EdgePut, EventPut}
use Rattle.room.proofs.Kept.{edges_kept, events_kept}
use Rattle.fan.specs.declared.Tally.{Tally}
use Rattle.fan.specs.Fan.{Fanned, fanned, nothing, both, edge_fan, event_fan, Added}

-- ---- two answers together

pub both_nothing : (g : Fanned) → both nothing g ≡ g
unfolding both
both_nothing g = rw zero-add

pub both_none : (g : Fanned) → both g nothing ≡ g
unfolding both
both_none g = rw (add-zero, append-nil g.edges, append-nil g.events, or-false)

pub both_assoc : (f g h : Fanned) → both (both f g) h ≡ both f (both g h)
unfolding both
both_assoc f g h = rw (add_assoc, append_assoc f.edges, append_assoc f.events, or_assoc)

module _ {k : Rooms} where
  pub added_none : (t : Tally) (f : List Float) (w : List ℕ) → Added k nothing t f w t f w
  added_none t f w = record {
    candidates = sym (add-zero _);
    edges = sym (add-zero _);
    events = sym (add-zero _);
    touch = sym (or-false _);
    edges_stand = λ h. sym (append-nil _);
    events_stand = λ h. sym (append-nil _);
    floats_only = only_refl 0 (merged_f k) f;
    words_only = only_refl (edges_w k) (turns_w k) w;
  }

  -- only the candidates and the touch change
  pub added_counts : (n : ℕ) (b : Bool) (t t' : Tally) (f : List Float) (w : List ℕ) → t'.candidates ≡ t.candidates + n → t'.edges ≡ t.edges → t'.events ≡ t.events
      → t'.touch ≡ (t.touch || b) → Added k (fanned n [] [] b) t f w t' f w
  added_counts n b t t' f w p q r s = record {
    candidates = p;
    edges = q ∙ sym (add-zero _);
    events = r ∙ sym (add-zero _);
    touch = s;
    edges_stand = λ h. ap (edges_in k f w) q ∙ sym (append-nil _);
    events_stand = λ h. ap (events_in k f w) r ∙ sym (append-nil _);
    floats_only = only_refl 0 (merged_f k) f;
    words_only = only_refl (edges_w k) (turns_w k) w;
  }

  pub added_both : {g h : Fanned} {t t' t'' : Tally} {f f' f'' : List Float} {w w' w'' : List ℕ} → Added k g t f w t' f' w' → Added k h t' f' w' t'' f'' w''
      → Added k (both g h) t f w t'' f'' w''
  unfolding both
  added_both {g} {h} {t} {t'} {t''} {f} {f'} {f''} {w} {w'} {w''} a b = record {
    candidates = omega (arith, a.candidates, b.candidates);
    edges = omega (arith, a.edges, b.edges, length-append g.edges h.edges);
    events = omega (arith, a.events, b.events, length-append g.events h.events);
    touch = b.touch ∙ ap (λ (x : Bool). x || h.touch) a.touch ∙ or_assoc t.touch g.touch h.touch;
    edges_stand = λ q. b.edges_stand q ∙ ap (λ (l : List LocalEdge). l ++ h.edges) (a.edges_stand (omega (arith, b.edges))) ∙ append_assoc (edges_in k f w t.edges) g.edges h.edges;
    events_stand = λ q. b.events_stand q ∙ ap (λ (l : List Event). l ++ h.events) (a.events_stand (omega (arith, b.events))) ∙ append_assoc (events_in k f w t.events) g.events h.events;
    floats_only = only_trans a.floats_only b.floats_only;
    words_only = only_trans a.words_only b.words_only;
  }

-- ---- a front edge, written and only counted

module _ (k : Rooms) (e : LocalEdge) (t t' : Tally) (f : List Float) (w : List ℕ)
    (c : t'.candidates ≡ t.candidates) (n : t'.edges ≡ t.edges + 1) (m : t'.events ≡ t.events) (b : t'.touch ≡ t.touch) where
  pub edge_written : (f' : List Float) (w' : List ℕ) → t.edges < k.edges → EdgePut k t.edges e f w f' w' → Added k (edge_fan e) t f w t' f' w'
  edge_written f' w' h p = record {
    candidates = c ∙ sym (add-zero _);
    edges = n;
    events = m ∙ sym (add-zero _);
    touch = b ∙ sym (or-false _);
    edges_stand = λ q. ap (edges_in k f' w') n ∙ stored_more p.entry h;
    events_stand = λ q. ap (events_in k f' w') m
        ∙ events_kept k f f' w w' t.events (omega arith) (only_part (events_f k) (merged_f k) p.floats (inr (omega arith))) (only_part (events_w k) (turns_w k) p.words (inr (omega arith)))
        ∙ sym (append-nil _);
    floats_only = only_wider 0 (merged_f k) (omega arith) (omega arith) p.floats;
    words_only = only_wider (edges_w k) (turns_w k) (omega arith) (omega arith) p.words;
  }

  pub edge_counted : k.edges ≤ t.edges → Added k (edge_fan e) t f w t' f w
  edge_counted h = record {
    candidates = c ∙ sym (add-zero _);
    edges = n;
    events = m ∙ sym (add-zero _);
    touch = b ∙ sym (or-false _);
    edges_stand = λ q. absurd (omega arith);
    events_stand = λ q. ap (events_in k f w) m ∙ sym (append-nil _);
    floats_only = only_refl 0 (merged_f k) f;
    words_only = only_refl (edges_w k) (turns_w k) w;
  }

-- ---- an event, written and only counted

module _ (k : Rooms) (e : Event) (t t' : Tally) (f : List Float) (w : List ℕ)
    (c : t'.candidates ≡ t.candidates) (n : t'.edges ≡ t.edges) (m : t'.events ≡ t.events + 1) (b : t'.touch ≡ t.touch) where
  pub event_written : (f' : List Float) (w' : List ℕ) → t.events < k.events → EventPut k t.events e f w f' w' → Added k (event_fan e) t f w t' f' w'
  event_written f' w' h p = record {
    candidates = c ∙ sym (add-zero _);
    edges = n ∙ sym (add-zero _);
    events = m;
    touch = b ∙ sym (or-false _);
    edges_stand = λ q. ap (edges_in k f' w') n
        ∙ edges_kept k f f' w w' t.edges (omega arith) (only_part 0 (events_f k) p.floats (inl (omega arith))) (only_part (edges_w k) (nearest_w k) p.words (inl (omega arith)))
        ∙ sym (append-nil _);
    events_stand = λ q. ap (events_in k f' w') m ∙ stored_more p.entry h;
    floats_only = only_wider 0 (merged_f k) (omega arith) (omega arith) p.floats;
    words_only = only_wider (edges_w k) (turns_w k) (omega arith) (omega arith) p.words;
  }

  pub event_counted : k.events ≤ t.events → Added k (event_fan e) t f w t' f w
  event_counted h = record {
    candidates = c ∙ sym (add-zero _);
    edges = n ∙ sym (add-zero _);
    events = m;
    touch = b ∙ sym (or-false _);
    edges_stand = λ q. ap (edges_in k f w) n ∙ sym (append-nil _);
    events_stand = λ q. absurd (omega arith);
    floats_only = only_refl 0 (merged_f k) f;
    words_only = only_refl (edges_w k) (turns_w k) w;
  }

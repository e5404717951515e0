-- An edge's buckets in one word: what is noted is said again; and the noting of all edges, turn by turn. Assumes nothing.
use Rattle.std.proofs.Common.{◌≡◌, ℕ, ◌+◌, ◌-◌, ◌*◌, ◌/◌, ◌%◌, ◌<◌, ◌≤◌, min, max, true, false, eqb, List, get_or, set, sym, refl, ap, ◌∙◌, subst, inl, ⊎_elim, true≢false, arith, get_or-set_other, get_or-set_same, lt-ltb, ne_eqb, le-leb}
use lib.Ieee.{Float}
use Rattle.lists.specs.Parts.{Only}
use Rattle.lists.proofs.Cases.{lt_or_le, eq_or_ne, by_test}
use Rattle.lists.proofs.Only.{only_refl, only_trans, only_set, only_get_d}
use Rattle.room.specs.declared.Rooms.{Rooms}
use Rattle.room.specs.Layout.{nearest_w, events_w}
use Rattle.index.specs.declared.AngularIndex.{AngularIndex}
use Rattle.index.specs.declared.Spans.{Spans}
use Rattle.index.specs.Spans.{stretch, both, covers}
use Rattle.index.specs.Filling.{spans_at, notes_w, said_of, said_by, meets_of, cut_both, Notable, Notes}
use Rattle.index.proofs.Buckets.{at_inside, turned}

-- the first and the last of a note
first_is : (from to : ℕ) → from < to → to ≤ 65536 → (65536 * from + (to - 1)) / 65536 ≡ from
first_is from to h k = omega arith

last_is : (from to : ℕ) → from < to → to ≤ 65536 → (65536 * from + (to - 1)) % 65536 ≡ to - 1
last_is from to h k = omega arith

-- a note that is the same word as the one that says nothing may be either
pub note_one : (s : Spans) → s.second.from ≡ 0 → s.second.to ≡ 0 → s.first.from < s.first.to → s.first.to ≤ 65536 → said_by (65536 * s.first.from + (s.first.to - 1)) s ≡ s
note_one s f t h k =
    let p = 65536 * s.first.from + (s.first.to - 1) in
    let e : s.first.to - 1 + 1 ≡ s.first.to = omega arith in
    let said : said_of p ≡ s
    = rw (first_is s.first.from s.first.to h k, last_is s.first.from s.first.to h k, e)
    (ap (λ (q : ℕ). both s.first (stretch 0 q)) (sym t) ∙ ap (λ (q : ℕ). both s.first (stretch q s.second.to)) (sym f)) in
    ⊎_elim (λ y. rw y) (λ y. rw y said) (by_test (eqb p 65535))

pub note_none : (s : Spans) → said_by 65535 s ≡ s
note_none s = refl

-- what a note says, by the test
module _ (p : ℕ) (s : Spans) {r : Spans} where
  pub not_said : p ≡ 65535 → r ≡ s → r ≡ said_by p s
  not_said e h = rw e h

  pub is_said : (p ≡ 65535 → ⊥) → r ≡ said_of p → r ≡ said_by p s
  is_said e h = rw (ne_eqb p 65535 e) h

-- an edge that a strip does not meet has no bucket in it
pub passed_by : (p lo hi : ℕ) (s : Spans) → lo < 65536 → lo < hi → meets_of p lo hi ≡ false → (b : ℕ)
    → (covers (cut_both lo hi (said_by p s)).first b ≡ false) × (covers (cut_both lo hi (said_by p s)).second b ≡ false)
passed_by p lo hi s l h e b =
    ⊎_elim
    (λ m.
    ⊎_elim
    (λ n. out (λ y. omega arith) (turned (max lo (p / 65536)) (min (p % 65536 + 1) hi) b (omega arith)))
    (λ n. let y : meets_of p lo hi ≡ true = rw (lt-ltb p (65536 * hi) m, le-leb lo (p % 65536) n) in absurd (true≢false (sym y ∙ e)))
    (lt_or_le (p % 65536) lo))
    (λ m. out (λ y. omega arith) (turned (max lo (p / 65536)) (min (p % 65536 + 1) hi) b (omega arith)))
    (lt_or_le p (65536 * hi))
  where
    out : (p ≡ 65535 → ⊥) → covers (cut_both lo hi (said_of p)).first b ≡ false
        → (covers (cut_both lo hi (said_by p s)).first b ≡ false) × (covers (cut_both lo hi (said_by p s)).second b ≡ false)
    out y f = rw (ne_eqb p 65535 y) (f, turned (max lo 0) (min 0 hi) b (omega arith))

-- ---- the noting of all edges: the first r have their notes
pub record Noting (k : Rooms) (floats : List Float) (x : AngularIndex) (total : Float) (n : ℕ) (w₀ w : List ℕ) (r : ℕ) : Type 0 where
  pub few : r ≤ n
  pub only : Only (notes_w k) (events_w k) w₀ w
  pub said : (q : ℕ) → q < r → said_by (get_or w (notes_w k + q) 0) (spans_at k floats x total (get_or w₀ (nearest_w k + q) 0)) ≡ spans_at k floats x total (get_or w₀ (nearest_w k + q) 0)

module _ (k : Rooms) (floats : List Float) (x : AngularIndex) (total : Float) (n : ℕ) (w₀ : List ℕ) (pre : Notable k floats x n w₀) where
  pub noting_none : Noting k floats x total n w₀ w₀ 0
  noting_none = record { few = omega arith; only = only_refl _ _ w₀; said = λ q l. absurd (omega arith) }

  -- the order of nearness stands in front of the notes
  order_same : (w : List ℕ) (q : ℕ) → Only (notes_w k) (events_w k) w₀ w → q < n → get_or w (nearest_w k + q) 0 ≡ get_or w₀ (nearest_w k + q) 0
  order_same w q o l = only_get_d (nearest_w k + q) 0 o (inl (omega (arith, pre.ready.held)))

  pub noting_all : (w : List ℕ) (r : ℕ) → n ≤ r → Noting k floats x total n w₀ w r → Notes k floats x total n w₀ w
  noting_all w r h t =
      record {
        only = t.only;
        noted = λ q l.
            subst (λ (i : ℕ). said_by (get_or w (notes_w k + q) 0) (spans_at k floats x total i) ≡ spans_at k floats x total i) (sym (order_same w q t.only l)) (t.said q (omega arith));
      }

  module _ (w : List ℕ) (r : ℕ) (h : r < n) (t : Noting k floats x total n w₀ w r) (p : ℕ) (hp : p ≡ nearest_w k) (s : Spans) (hs : s ≡ spans_at k floats x total (get_or w (p + r) 0)) where
    same : s ≡ spans_at k floats x total (get_or w₀ (nearest_w k + r) 0)
    same = hs ∙ ap (λ (q : ℕ). spans_at k floats x total (get_or w (q + r) 0)) hp ∙ ap (spans_at k floats x total) (order_same w r t.only h)

    pub note_fits : s.first.to ≤ 65536
    note_fits = omega (arith, ap (λ (q : Spans). q.first.to) hs, (at_inside k floats x total (get_or w (p + r) 0) pre.some).first_in, pre.few)

    pub noting_more : (c : ℕ) → c ≡ notes_w k → (v : ℕ) → said_by v s ≡ s → Noting k floats x total n w₀ (set w (c + r) v) (r + 1)
    noting_more c hc v e =
        record {
          few = omega arith;
          only = only_trans t.only (only_set (notes_w k) (events_w k) w (c + r) v (omega arith) (omega (arith, pre.ready.held)));
          said = λ q l.
              ⊎_elim
              (λ z.
              let at : get_or (set w (c + r) v) (notes_w k + q) 0 ≡ v
              = ap (λ (j : ℕ). get_or (set w (c + r) v) j 0) (omega arith) ∙ get_or-set_same w (c + r) v 0 (omega (arith, t.only.long, pre.ready.fit.words_fit, pre.ready.held)) in
              subst (λ (j : ℕ). said_by (get_or (set w (c + r) v) (notes_w k + q) 0) (spans_at k floats x total (get_or w₀ (nearest_w k + j) 0)) ≡ spans_at k floats x total (get_or w₀ (nearest_w k + j) 0)) (sym z)
              (ap (λ (j : ℕ). said_by j (spans_at k floats x total (get_or w₀ (nearest_w k + r) 0))) at ∙ subst (λ (g : Spans). said_by v g ≡ g) same e))
              (λ z.
              let at : get_or (set w (c + r) v) (notes_w k + q) 0 ≡ get_or w (notes_w k + q) 0 = get_or-set_other w (c + r) (notes_w k + q) v 0 (λ g. z (omega arith)) in
              ap (λ (j : ℕ). said_by j (spans_at k floats x total (get_or w₀ (nearest_w k + q) 0))) at ∙ t.said q (omega arith))
              (eq_or_ne q r);
        }

-- The two passes over the edges, from the farthest to the nearest: counting, and putting in, a strip of buckets after the other. Assumes nothing.
use Rattle.std.proofs.Common.{◌≡◌, ℕ, suc, ◌+◌, ◌-◌, ◌%◌, ◌<◌, ◌≤◌, max, Bool, false, List, [], ◌∷◌, ◌++◌, length, get_or, take, drop, sym, refl, ap, ◌∙◌, subst, ⊎_elim, le_refl, arith, length-drop, drop_of_length-le, get_or-take, drop-drop}
use lib.Ieee.{Float}
use borrow.Rule.Slice.PartMut.{mid_of, put_mid, mid_len, same_len_mid, take_put}
use Rattle.lists.specs.Lists.{cons_if, sum_to, joined}
use Rattle.lists.proofs.Cases.{lt_or_le}
use Rattle.lists.proofs.Sums.{sum_to_step}
use Rattle.lists.proofs.Only.{only_wider}
use Rattle.lists.proofs.Parts.{part_rest, back_rest, front_get_d, get_d_part}
use Rattle.tables.specs.Scatter.{State}
use Rattle.tables.proofs.Puts.{state_ext, state_none, state_full}
use Rattle.room.specs.declared.Rooms.{Rooms}
use Rattle.room.specs.Layout.{nearest_w, starts_w, refs_w, words_for}
use Rattle.index.specs.declared.AngularIndex.{AngularIndex}
use Rattle.index.specs.declared.Spans.{Spans}
use Rattle.index.specs.Spans.{covers, edge_bits}
use Rattle.index.specs.Filling.{spans_at, order_in, refs_by, many_by, notes_w, said_by, Noted, cut_both, tally_of, Marked, Counting, Counted, PutRoom, PutBoth, Putting, Placed}
use Rattle.index.proofs.Buckets.{Inside, at_inside, bits_past, bits_inside, length_more, drop_down}
use Rattle.index.proofs.Strips.{strip, strip_rest, strip_same, strip_next, strip_all, strip_more, strip_long, strip_few, cut_in}

-- ---- the order of nearness
pub order_long : (k : Rooms) (w : List ℕ) (n : ℕ) → n ≤ k.edges → words_for k ≤ length w → length (order_in k w n) ≡ n
order_long k w n h f = mid_len (nearest_w k) (nearest_w k + n) w (omega arith) ∙ omega arith

order_end : (k : Rooms) (w : List ℕ) (n : ℕ) → n ≤ k.edges → words_for k ≤ length w → drop n (order_in k w n) ≡ []
order_end k w n h f = let q : length (order_in k w n) ≤ n = omega (arith, order_long k w n h f) in drop_of_length-le (order_in k w n) q

-- it stands in front of the starts
order_read : (k : Rooms) (w₀ w : List ℕ) (n r : ℕ) → n ≤ k.edges → 0 < r → r ≤ n → take (starts_w k) w ≡ take (starts_w k) w₀ → get_or w (nearest_w k + (r - 1)) 0 ≡ get_or (order_in k w₀ n) (r - 1) 0
order_read k w₀ w n r few h l e =
    front_get_d (starts_w k) w w₀ (nearest_w k + (r - 1)) 0 (omega arith) e ∙ sym (get_d_part (nearest_w k) (nearest_w k + n) w₀ (r - 1) 0 (omega arith))

-- its notes stand there too: what one says are the edge's buckets
pub said_here : (k : Rooms) (floats : List Float) (x : AngularIndex) (total : Float) (n : ℕ) (w₀ : List ℕ) → n ≤ k.edges → Noted k floats x total n w₀
    → (w : List ℕ) (r : ℕ) → 0 < r → r ≤ n → (st : ℕ) → st ≡ starts_w k → take st w ≡ take st w₀ → (p : ℕ) → p ≡ nearest_w k → (q : ℕ) → q ≡ notes_w k
    → (s : Spans) → s ≡ said_by (get_or w (q + (r - 1)) 0) (spans_at k floats x total (get_or w (p + (r - 1)) 0)) → s ≡ spans_at k floats x total (get_or w (p + (r - 1)) 0)
said_here k floats x total n w₀ few noted w r h l st hst front p hp q hq s hs =
    let f : take (starts_w k) w ≡ take (starts_w k) w₀ = subst (λ (j : ℕ). take j w ≡ take j w₀) hst front in
    let o : get_or w (p + (r - 1)) 0 ≡ get_or w₀ (nearest_w k + (r - 1)) 0
    = ap (λ (j : ℕ). get_or w (j + (r - 1)) 0) hp ∙ front_get_d (starts_w k) w w₀ (nearest_w k + (r - 1)) 0 (omega arith) f in
    let m : get_or w (q + (r - 1)) 0 ≡ get_or w₀ (notes_w k + (r - 1)) 0
    = ap (λ (j : ℕ). get_or w (j + (r - 1)) 0) hq ∙ front_get_d (starts_w k) w w₀ (notes_w k + (r - 1)) 0 (omega arith) f in
    hs ∙ ap (λ (j : ℕ). said_by j (spans_at k floats x total (get_or w (p + (r - 1)) 0))) m
    ∙ ap (λ (j : ℕ). said_by (get_or w₀ (notes_w k + (r - 1)) 0) (spans_at k floats x total j)) o
    ∙ noted (r - 1) (omega arith) ∙ ap (spans_at k floats x total) (sym o)

-- ---- one edge that is counted or put in: s are its buckets and p the place of the order
module _ (k : Rooms) (floats : List Float) (x : AngularIndex) (total : Float) (n : ℕ) (w₀ : List ℕ) (few : n ≤ k.edges) (fit : words_for k ≤ length w₀) (some : 0 < x.buckets)
    (w : List ℕ) (r : ℕ) (h : 0 < r) (l : r ≤ n) (st : ℕ) (hst : st ≡ starts_w k) (front : take st w ≡ take st w₀) (p : ℕ) (hp : p ≡ nearest_w k)
    (s : Spans) (hs : s ≡ spans_at k floats x total (get_or w (p + (r - 1)) 0)) where
  pub read : get_or w (p + (r - 1)) 0 ≡ get_or (order_in k w₀ n) (r - 1) 0
  read = ap (λ (q : ℕ). get_or w (q + (r - 1)) 0) hp ∙ order_read k w₀ w n r few h l (subst (λ (q : ℕ). take q w ≡ take q w₀) hst front)

  same : s ≡ spans_at k floats x total (get_or (order_in k w₀ n) (r - 1) 0)
  same = hs ∙ ap (spans_at k floats x total) read

  pub inside : Inside x.buckets s
  inside = subst (Inside x.buckets) (sym same) (at_inside k floats x total (get_or (order_in k w₀ n) (r - 1) 0) some)

  next_order : drop (r - 1) (order_in k w₀ n) ≡ get_or (order_in k w₀ n) (r - 1) 0 ∷ drop r (order_in k w₀ n)
  next_order = drop_down (order_in k w₀ n) r h (omega (arith, order_long k w₀ n few fit))

  pub grow : (b : ℕ) → length (refs_by k floats x total (drop (r - 1) (order_in k w₀ n)) b) ≡ edge_bits s b + length (refs_by k floats x total (drop r (order_in k w₀ n)) b)
  grow b =
      ap (λ (q : List ℕ). length (refs_by k floats x total q b)) next_order
      ∙ length_more (spans_at k floats x total) (get_or (order_in k w₀ n) (r - 1) 0) (drop r (order_in k w₀ n)) b
      ∙ ap (λ (q : Spans). edge_bits q b + length (refs_by k floats x total (drop r (order_in k w₀ n)) b)) (sym same)

  pub more : (b : ℕ) → refs_by k floats x total (drop (r - 1) (order_in k w₀ n)) b
      ≡ cons_if (covers s.first b) (get_or w (p + (r - 1)) 0) (cons_if (covers s.second b) (get_or w (p + (r - 1)) 0) (refs_by k floats x total (drop r (order_in k w₀ n)) b))
  more b =
      ap (λ (q : List ℕ). refs_by k floats x total q b) next_order
      ∙ ap (λ (q : Spans). cons_if (covers q.first b) (get_or (order_in k w₀ n) (r - 1) 0) (cons_if (covers q.second b) (get_or (order_in k w₀ n) (r - 1) 0) (refs_by k floats x total (drop r (order_in k w₀ n)) b))) (sym same)
      ∙ ap (λ (q : ℕ). cons_if (covers s.first b) q (cons_if (covers s.second b) q (refs_by k floats x total (drop r (order_in k w₀ n)) b))) (sym read)

-- ---- a rest that was lent from st on
tail_is : (st : ℕ) (w : List ℕ) → mid_of st (length w - st) w ≡ drop st w
tail_is st w = part_rest st w

-- ---- the counting: the edges from r on are marked
pub record Tallied (k : Rooms) (floats : List Float) (x : AngularIndex) (total : Float) (n st : ℕ) (w₀ w : List ℕ) (r : ℕ) : Type 0 where
  pub left : r ≤ n
  pub long : length w ≡ length w₀
  pub front : take st w ≡ take st w₀
  pub tallies : (b : ℕ) → tally_of (drop st w) b ≡ (tally_of (drop st w₀) b + length (refs_by k floats x total (drop r (order_in k w₀ n)) b)) % 4294967296
  pub rest : drop (suc x.buckets) (drop st w) ≡ drop (suc x.buckets) (drop st w₀)

module _ (k : Rooms) (floats : List Float) (x : AngularIndex) (total : Float) (n : ℕ) (w₀ : List ℕ) (pre : Counting k floats x total n w₀) (st : ℕ) (hst : st ≡ starts_w k) where
  pub tallied_none : Tallied k floats x total n st w₀ w₀ n
  tallied_none =
      let e : drop n (order_in k w₀ n) ≡ [] = order_end k w₀ n pre.ready.held pre.ready.fit.words_fit in
      record {
        left = le_refl n;
        long = refl;
        front = refl;
        tallies = λ b. omega (arith, ap (λ (q : List ℕ). length (refs_by k floats x total q b)) e);
        rest = refl;
      }

  pub tallied_all : (w : List ℕ) (r : ℕ) → r ≤ 0 → Tallied k floats x total n st w₀ w r → Counted k floats x total n w₀ w
  tallied_all w r h t =
      let e : r ≡ 0 = omega arith in
      let f : st + suc x.buckets ≡ starts_w k + suc x.buckets = omega arith in
      record {
        only = only_wider {b = starts_w k + suc x.buckets} (starts_w k) (refs_w k) (le_refl _) (omega (arith, pre.starts_fit)) (record {
          long = t.long;
          front = subst (λ (q : ℕ). take q w ≡ take q w₀) hst t.front;
          rest = subst (λ (q : ℕ). drop q w ≡ drop q w₀) f (sym (drop-drop (suc x.buckets) st w) ∙ t.rest ∙ drop-drop (suc x.buckets) st w₀);
        });
        tallies = λ b. subst (λ (q : ℕ). tally_of (drop q w) b ≡ (tally_of (drop q w₀) b + length (refs_by k floats x total (order_in k w₀ n) b)) % 4294967296) hst
            (t.tallies b ∙ ap (λ (q : ℕ). (tally_of (drop st w₀) b + length (refs_by k floats x total (drop q (order_in k w₀ n)) b)) % 4294967296) e);
      }

  module _ (w : List ℕ) (r : ℕ) (h : 0 < r) (t : Tallied k floats x total n st w₀ w r) (p : ℕ) (hp : p ≡ nearest_w k) (c : ℕ) (hc : c ≡ notes_w k)
      (s : Spans) (hs : s ≡ said_by (get_or w (c + (r - 1)) 0) (spans_at k floats x total (get_or w (p + (r - 1)) 0))) where
    is_said : s ≡ spans_at k floats x total (get_or w (p + (r - 1)) 0)
    is_said = said_here k floats x total n w₀ pre.ready.held pre.noted w r h t.left st hst t.front p hp c hc s hs

    ins : Inside x.buckets s
    ins = inside k floats x total n w₀ pre.ready.held pre.ready.fit.words_fit pre.some w r h t.left st hst t.front p hp s is_said

    pub mark_room : (s.first.to < length (mid_of st (length w - st) w)) × (s.second.to < length (mid_of st (length w - st) w))
    mark_room =
        let fits : x.buckets < length (mid_of st (length w - st) w)
        = omega (arith, ap length (tail_is st w), length-drop st w, pre.ready.fit.words_fit, pre.starts_fit, t.long, hst) in
        (omega (arith, ins.first_in), omega (arith, ins.second_in))

    pub tallied_more : (v : List ℕ) → length v ≡ length (mid_of st (length w - st) w) → Marked (edge_bits s) (max s.first.to s.second.to) (mid_of st (length w - st) w) v
        → Tallied k floats x total n st w₀ (put_mid st (length w - st) w v) (r - 1)
    tallied_more v lv put =
        let fits : st ≤ length w = omega (arith, pre.ready.fit.words_fit, t.long, hst) in
        let d : Marked (edge_bits s) (max s.first.to s.second.to) (drop st w) v
        = subst (λ (q : List ℕ). Marked (edge_bits s) (max s.first.to s.second.to) q v) (tail_is st w) put in
        let now : drop st (put_mid st (length w - st) w v) ≡ v = back_rest st w v fits in
        let g = grow k floats x total n w₀ pre.ready.held pre.ready.fit.words_fit pre.some w r h t.left st hst t.front p hp s is_said in
        record {
          left = omega (arith, t.left);
          long = same_len_mid st (length w - st) w v lv ∙ t.long;
          front = take_put st (length w - st) w v fits ∙ t.front;
          tallies = λ b. ap (λ (q : List ℕ). tally_of q b) now ∙ d.tallies b ∙ omega (arith, t.tallies b, g b);
          rest = ap (drop (suc x.buckets)) now ∙ d.rest (suc x.buckets) (omega (arith, ins.first_in, ins.second_in)) ∙ t.rest;
        }

-- ---- the putting in: the buckets up to lo are done, and in those up to hi the edges from r on
pub record Scattered (k : Rooms) (floats : List Float) (x : AngularIndex) (total : Float) (n st rf : ℕ) (w₀ w : List ℕ) (lo hi r : ℕ) : Type 0 where
  pub left : r ≤ n
  pub long : length w ≡ length w₀
  pub front : take st w ≡ take st w₀
  pub starts : (b : ℕ) → get_or (take rf (drop st w)) b 0 + length (strip (spans_at k floats x total) (order_in k w₀ n) lo hi r b) ≡ get_or (take rf (drop st w₀)) b 0
  pub blocks : State (λ b. length (refs_by k floats x total (order_in k w₀ n) b)) (strip (spans_at k floats x total) (order_in k w₀ n) lo hi r) x.buckets
      (drop (many_by k floats x total (order_in k w₀ n)) (drop rf (drop st w₀))) (take rf (drop st w)) (drop rf (drop st w))

-- within one strip: from words where the buckets up to lo are done, w₁, to w
abbrev pub Stripped : Rooms → List Float → AngularIndex → Float → ℕ → ℕ → ℕ → ℕ → ℕ → List ℕ → List ℕ → ℕ → Type 0
Stripped k floats x total n st rf lo hi w₁ w r =
    (w₀ : List ℕ) → Putting k floats x total n w₀ → Scattered k floats x total n st rf w₀ w₁ lo lo n → Scattered k floats x total n st rf w₀ w lo hi r

module _ (k : Rooms) (floats : List Float) (x : AngularIndex) (total : Float) (n : ℕ) (w₀ : List ℕ) (pre : Putting k floats x total n w₀) (st : ℕ) (hst : st ≡ starts_w k) (rf : ℕ) (hrf : rf ≡ k.starts) where
  -- the starts at the beginning
  start_at : (b : ℕ) → b < x.buckets → get_or (take rf (drop st w₀)) b 0 ≡ sum_to (λ j. length (refs_by k floats x total (order_in k w₀ n) j)) (suc b)
  start_at b g =
      get_or-take rf (drop st w₀) b 0 (omega (arith, pre.starts_fit, hrf))
      ∙ subst (λ (q : ℕ). get_or (drop q w₀) b 0 ≡ sum_to (λ j. length (refs_by k floats x total (order_in k w₀ n) j)) (suc b)) (sym hst) (pre.ends b g)

  -- where the references are
  refs_are : (l : List ℕ) → drop rf (drop st l) ≡ drop (refs_w k) l
  refs_are l = let e : st + rf ≡ refs_w k = omega arith in drop-drop rf st l ∙ ap (λ (q : ℕ). drop q l) e

  refs_long : (l : List ℕ) → length l ≡ length w₀ → k.refs ≤ length (drop rf (drop st l))
  refs_long l e = omega (arith, ap length (refs_are l), length-drop (refs_w k) l, e, pre.ready.fit.words_fit)

  none_left : drop n (order_in k w₀ n) ≡ []
  none_left = order_end k w₀ n pre.ready.held pre.ready.fit.words_fit

  pub scattered_none : Scattered k floats x total n st rf w₀ w₀ 0 0 n
  scattered_none =
      let none : (b : ℕ) → strip (spans_at k floats x total) (order_in k w₀ n) 0 0 n b ≡ [] = λ b. strip_rest (spans_at k floats x total) (order_in k w₀ n) 0 0 n b none_left (omega arith) in
      record {
        left = le_refl n;
        long = refl;
        front = refl;
        starts = λ b. omega (arith, ap length (none b));
        blocks = state_none none start_at (omega (arith, pre.refs_fit, refs_long w₀ refl));
      }

  -- the same, of a strip that holds the same
  scattered_as : (w : List ℕ) (lo hi r lo' hi' r' : ℕ) → r' ≤ n
      → ((b : ℕ) → strip (spans_at k floats x total) (order_in k w₀ n) lo' hi' r' b ≡ strip (spans_at k floats x total) (order_in k w₀ n) lo hi r b)
      → Scattered k floats x total n st rf w₀ w lo hi r → Scattered k floats x total n st rf w₀ w lo' hi' r'
  scattered_as w lo hi r lo' hi' r' h e t =
      record {
        left = h;
        long = t.long;
        front = t.front;
        starts = λ b. omega (arith, t.starts b, ap length (e b));
        blocks = state_ext (strip (spans_at k floats x total) (order_in k w₀ n) lo' hi' r') e t.blocks;
      }

  -- a strip begins
  pub scattered_open : (w : List ℕ) (lo hi : ℕ) → Scattered k floats x total n st rf w₀ w lo lo n → Scattered k floats x total n st rf w₀ w lo hi n
  scattered_open w lo hi t = scattered_as w lo lo n lo hi n (le_refl n) (strip_same (spans_at k floats x total) (order_in k w₀ n) lo hi n none_left) t

  -- and ends
  pub scattered_close : (w : List ℕ) (lo hi r : ℕ) → lo ≤ hi → r ≤ 0 → Scattered k floats x total n st rf w₀ w lo hi r → Scattered k floats x total n st rf w₀ w hi hi n
  scattered_close w lo hi r h z t =
      scattered_as w lo hi r hi hi n (le_refl n) (strip_next (spans_at k floats x total) (order_in k w₀ n) lo hi r n h (omega arith) none_left) t

  pub scattered_all : (w : List ℕ) (lo : ℕ) → x.buckets ≤ lo → Scattered k floats x total n st rf w₀ w lo lo n → Placed k floats x total n w₀ w
  scattered_all w lo h t =
      let o = order_in k w₀ n in
      let all : (b : ℕ) → refs_by k floats x total o b ≡ strip (spans_at k floats x total) o lo lo n b
      = strip_all (spans_at k floats x total) o x.buckets (λ i. at_inside k floats x total i pre.some) lo n h none_left in
      record {
        front = subst (λ (q : ℕ). take q w ≡ take q w₀) hst t.front;
        starts = λ b g.
            let a : get_or (take rf (drop st w)) b 0 ≡ get_or (drop st w) b 0 = get_or-take rf (drop st w) b 0 (omega arith) in
            let a₀ : get_or (take rf (drop st w₀)) b 0 ≡ get_or (drop st w₀) b 0 = get_or-take rf (drop st w₀) b 0 (omega arith) in
            subst (λ (q : ℕ). get_or (drop q w) b 0 + length (refs_by k floats x total o b) ≡ get_or (drop q w₀) b 0) hst (omega (arith, a, a₀, t.starts b, ap length (all b)));
        refs = sym (refs_are w) ∙ state_full (λ b. refl) (state_ext (refs_by k floats x total o) all t.blocks)
            ∙ ap (λ (q : List ℕ). joined (refs_by k floats x total o) x.buckets ++ q) (ap (drop (many_by k floats x total o)) (refs_are w₀) ∙ drop-drop (many_by k floats x total o) (refs_w k) w₀);
      }

  -- one edge: s are its buckets, and u those of them in the strip
  module _ (w : List ℕ) (lo hi r : ℕ) (h : 0 < r) (t : Scattered k floats x total n st rf w₀ w lo hi r) (p : ℕ) (hp : p ≡ nearest_w k) (c : ℕ) (hc : c ≡ notes_w k)
      (s : Spans) (hs : s ≡ said_by (get_or w (c + (r - 1)) 0) (spans_at k floats x total (get_or w (p + (r - 1)) 0))) (u : Spans) (hu : u ≡ cut_both lo hi s) where
    is_said' : s ≡ spans_at k floats x total (get_or w (p + (r - 1)) 0)
    is_said' = said_here k floats x total n w₀ pre.ready.held pre.noted w r h t.left st hst t.front p hp c hc s hs

    in_buckets : Inside x.buckets u
    in_buckets =
        subst (Inside x.buckets) (sym hu)
        (cut_in lo hi x.buckets s (inside k floats x total n w₀ pre.ready.held pre.ready.fit.words_fit pre.some w r h t.left st hst t.front p hp s is_said'))

    -- what the strip holds then
    holds : (b : ℕ) → strip (spans_at k floats x total) (order_in k w₀ n) lo hi (r - 1) b
        ≡ cons_if (covers u.first b) (get_or w (p + (r - 1)) 0) (cons_if (covers u.second b) (get_or w (p + (r - 1)) 0) (strip (spans_at k floats x total) (order_in k w₀ n) lo hi r b))
    holds b =
        subst (λ (q : Spans). strip (spans_at k floats x total) (order_in k w₀ n) lo hi (r - 1) b
        ≡ cons_if (covers q.first b) (get_or w (p + (r - 1)) 0) (cons_if (covers q.second b) (get_or w (p + (r - 1)) 0) (strip (spans_at k floats x total) (order_in k w₀ n) lo hi r b))) (sym hu)
        (strip_more (spans_at k floats x total) (order_in k w₀ n) lo hi r s (get_or w (p + (r - 1)) 0)
        (more k floats x total n w₀ pre.ready.held pre.ready.fit.words_fit pre.some w r h t.left st hst t.front p hp s is_said') b)

    grows : (b : ℕ) → length (strip (spans_at k floats x total) (order_in k w₀ n) lo hi (r - 1) b) ≡ edge_bits u b + length (strip (spans_at k floats x total) (order_in k w₀ n) lo hi r b)
    grows b = strip_long (get_or w (p + (r - 1)) 0) u b _ _ (holds b)

    will_hold : (b : ℕ) → edge_bits u b + length (strip (spans_at k floats x total) (order_in k w₀ n) lo hi r b) ≤ length (refs_by k floats x total (order_in k w₀ n) b)
    will_hold b = omega (arith, grows b, strip_few (spans_at k floats x total) (order_in k w₀ n) lo hi (r - 1) b)

    -- where it has none, nothing is to be put
    pub scattered_skip : ((b : ℕ) → (covers u.first b ≡ false) × (covers u.second b ≡ false)) → Scattered k floats x total n st rf w₀ w lo hi (r - 1)
    scattered_skip out =
        scattered_as w lo hi r lo hi (r - 1) (omega (arith, t.left)) (λ b.
        holds b
        ∙ ap (λ (q : Bool). cons_if q (get_or w (p + (r - 1)) 0) (cons_if (covers u.second b) (get_or w (p + (r - 1)) 0) (strip (spans_at k floats x total) (order_in k w₀ n) lo hi r b))) (out b).0
        ∙ ap (λ (q : Bool). cons_if q (get_or w (p + (r - 1)) 0) (strip (spans_at k floats x total) (order_in k w₀ n) lo hi r b)) (out b).1) t

    pub put_room : PutRoom rf u (mid_of st (length w - st) w)
    put_room =
        let i = in_buckets in
        let long : length (drop st w) ≡ length w - st = length-drop st w in
        subst (PutRoom rf u) (sym (tail_is st w))
        (record {
          inside = omega (arith, long, pre.ready.fit.words_fit, t.long, hst, hrf);
          first_fits = omega (arith, i.first_in, pre.starts_fit, hrf);
          second_fits = omega (arith, i.second_in, pre.starts_fit, hrf);
          above = λ b.
              ⊎_elim
              (λ g. omega (arith, t.starts b, start_at b g, will_hold b))
              (λ g. let z : edge_bits u b ≡ 0 = bits_past x.buckets u b i g in omega arith)
              (lt_or_le b x.buckets);
          below = λ b c.
              let g : b < x.buckets = bits_inside x.buckets u b i c in
              let m = sum_to_step (λ j. length (refs_by k floats x total (order_in k w₀ n) j)) b x.buckets g in
              omega (arith, t.starts b, start_at b g, m, pre.refs_fit, refs_long w t.long);
        })

    pub scattered_more : (v : List ℕ) → length v ≡ length (mid_of st (length w - st) w) → PutBoth rf u (get_or w (p + (r - 1)) 0) (mid_of st (length w - st) w) v
        → Scattered k floats x total n st rf w₀ (put_mid st (length w - st) w v) lo hi (r - 1)
    scattered_more v lv put =
        let fits : st ≤ length w = omega (arith, pre.ready.fit.words_fit, t.long, hst) in
        let d : PutBoth rf u (get_or w (p + (r - 1)) 0) (drop st w) v = subst (λ (q : List ℕ). PutBoth rf u (get_or w (p + (r - 1)) 0) q v) (tail_is st w) put in
        let now : drop st (put_mid st (length w - st) w v) ≡ v = back_rest st w v fits in
        record {
          left = omega (arith, t.left);
          long = same_len_mid st (length w - st) w v lv ∙ t.long;
          front = take_put st (length w - st) w v fits ∙ t.front;
          starts = λ b. omega (arith, ap (λ (q : List ℕ). get_or (take rf q) b 0) now, d.down b, t.starts b, grows b);
          blocks = subst (λ (q : List ℕ). State (λ b. length (refs_by k floats x total (order_in k w₀ n) b)) (strip (spans_at k floats x total) (order_in k w₀ n) lo hi (r - 1)) x.buckets
              (drop (many_by k floats x total (order_in k w₀ n)) (drop rf (drop st w₀))) (take rf q) (drop rf q)) (sym now)
              (state_ext (strip (spans_at k floats x total) (order_in k w₀ n) lo hi (r - 1)) holds
              (d.held (λ b. length (refs_by k floats x total (order_in k w₀ n) b)) (strip (spans_at k floats x total) (order_in k w₀ n) lo hi r) x.buckets _ (omega (arith, pre.starts_fit, hrf)) t.blocks
              (λ b c. (bits_inside x.buckets u b in_buckets c, omega (arith, will_hold b)))));
        }

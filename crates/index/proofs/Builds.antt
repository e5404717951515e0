-- The building as a whole: the order of nearness read as edges, what the references are, and each way through `build`. Assumes nothing.
use Rattle.std.proofs.Common.{◌≡◌, ℕ, ◌+◌, ◌<◌, ◌≤◌, Bool, true, false, ◌||◌, ltb, List, [], ◌∷◌, map, length, get_or, take, drop, sym, refl, ap, ◌∙◌, subst, inl, true≢false, le_refl, arith, le-ltb, lt-ltb}
use lib.ListN.{length-map}
use lib.Ieee.{Float, nan}
use Rattle.lists.specs.Lists.{cons_if, sum_to, sum_over, listed}
use Rattle.lists.specs.Members.{All}
use Rattle.lists.specs.Parts.{part, Only}
use Rattle.lists.proofs.Sums.{sum_to_ext}
use Rattle.lists.proofs.Joined.{listed_ext, length_listed}
use Rattle.lists.proofs.Members.{all_map}
use Rattle.lists.proofs.Parts.{part_from, get_d_part}
use Rattle.lists.proofs.Only.{only_refl, only_trans, only_wider, only_part}
use Rattle.sorts.specs.By.{key_order}
use Rattle.sorts.specs.Sort.{sort}
use Rattle.sorts.specs.Fronts.{Ordered}
use Rattle.sorts.proofs.Keyed.{read_order, length_order, order_below, order_sum}
use Rattle.room.specs.declared.Rooms.{Rooms}
use Rattle.room.specs.declared.LocalEdge.{LocalEdge}
use Rattle.room.specs.Layout.{edges_w, nearest_w, events_w, starts_w, samples_w}
use Rattle.room.specs.Records.{edge_at, edges_in}
use Rattle.room.proofs.Kept.{edges_kept}
use Rattle.index.specs.declared.AngularIndex.{AngularIndex}
use Rattle.index.specs.declared.Indexed.{Indexed}
use Rattle.index.specs.declared.Spans.{Spans}
use Rattle.index.specs.Spans.{buckets_for, head_of, bucket_of, clip_of, spans_by, spans_of, covers, edge_bits}
use Rattle.index.specs.Angular.{in_bucket, nearer, nearest_first, Index, bucket_edges, index_of, refs_of}
use Rattle.index.specs.Stands.{refs_at, index_in, Within, Ready, over_of, Builds}
use Rattle.index.specs.Filling.{spans_at, order_in, refs_by, many_by, count_to, refs_to, Fillable, Held, Filled}
use Rattle.index.proofs.Buckets.{at_inside, many_refs, refs_few, length_bucket, map_bucket}

-- what all of a list have, those of a bucket have
pub all_bucket : {A : Type 0} (spans : A → Spans) (P : A → Type 0) (l : List A) (b : ℕ) → All P l → All P (in_bucket spans l b)
all_bucket {A} spans P [] b h = tt
all_bucket {A} spans P (e ∷ es) b h =
    on (covers (spans e).first b) (cons_if (covers (spans e).second b) e (in_bucket spans es b)) (on (covers (spans e).second b) (in_bucket spans es b) (all_bucket spans P es b h.1))
  where
    on : (t : Bool) (l : List A) → All P l → All P (cons_if t e l)
    on true l k = (h.0, k)
    on false l k = k

head_few : (mode n : ℕ) (total : Float) → (0 < (head_of mode n total).buckets) × ((head_of mode n total).buckets ≤ 65536)
unfolding head_of buckets_for
head_few mode n total = (omega arith, omega arith)

-- the mode does not move an edge
sum_mode : (mode : ℕ) (total : Float) (es : List LocalEdge)
    → sum_to (λ b. length (bucket_edges (head_of mode (length es) total) total es b)) (head_of mode (length es) total).buckets
    ≡ sum_to (λ b. length (bucket_edges (head_of 0 (length es) total) total es b)) (head_of 0 (length es) total).buckets
unfolding head_of bucket_edges spans_by clip_of bucket_of
sum_mode mode total es = refl

made : AngularIndex → List (List LocalEdge) → Index
made x l = record { head = x; buckets = l }

module _ (mode : ℕ) (k : Rooms) (floats : List Float) (words : List ℕ) (n : ℕ) (total : Float) (ready : Ready k floats words n) (w₁ : List ℕ) (at en : ℕ) (hat : at ≡ nearest_w k) (hen : en ≡ events_w k)
    (ord : Ordered (key_order (part 0 (0 + n) floats) n) at en words w₁) (x : AngularIndex) (hx : x ≡ head_of mode n total) where
  ordered : Only (nearest_w k) (events_w k) words w₁
  ordered = subst (λ (q : ℕ). Only q (events_w k) words w₁) hat (subst (λ (q : ℕ). Only at q words w₁) hen ord.only)

  pub some_few : (0 < x.buckets) × (x.buckets ≤ 65536)
  some_few = subst (λ (h : AngularIndex). (0 < h.buckets) × (h.buckets ≤ 65536)) (sym hx) (head_few mode n total)

  ready₁ : Ready k floats w₁ n
  ready₁ = record { fit = record { floats_fit = ready.fit.floats_fit; words_fit = omega (arith, ready.fit.words_fit, ordered.long) }; held = ready.held }

  order_is : order_in k w₁ n ≡ key_order (part 0 (0 + n) floats) n
  order_is =
      part_from (nearest_w k) n w₁ ∙ ap (λ (q : ℕ). take n (drop q w₁)) (sym hat) ∙ ap (λ (q : ℕ). take q (drop at w₁)) (sym (length_order (part 0 (0 + n) floats) n)) ∙ ord.list

  -- the edges that the order names, where the numbers of the edges are kept
  module _ (w : List ℕ) (numbers : part (edges_w k) (nearest_w k) w ≡ part (edges_w k) (nearest_w k) words) where
    key_at : (i : ℕ) → i < n → get_or (part 0 (0 + n) floats) i nan ≡ (edge_at k floats w i).near
    unfolding edge_at
    key_at i h = let e : 0 + i ≡ i = omega arith in get_d_part 0 (0 + n) floats i nan (omega arith) ∙ ap (λ (q : ℕ). get_or floats q nan) e

    read : map (edge_at k floats w) (order_in k w₁ n) ≡ nearest_first (edges_in k floats words n)
    unfolding nearest_first
    read =
        ap (map (edge_at k floats w)) order_is
        ∙ read_order (edge_at k floats w) (λ e. e.near) (part 0 (0 + n) floats) n key_at
        ∙ ap (sort nearer) (edges_kept k floats floats words w n ready.held refl numbers)

    bucket_read : (b : ℕ) → map (edge_at k floats w) (refs_by k floats x total (order_in k w₁ n) b) ≡ bucket_edges x total (edges_in k floats words n) b
    unfolding bucket_edges spans_at edge_at
    bucket_read b = map_bucket (edge_at k floats w) (spans_of x total) (order_in k w₁ n) b ∙ ap (λ (l : List LocalEdge). in_bucket (spans_of x total) l b) read

  numbers₁ : part (edges_w k) (nearest_w k) w₁ ≡ part (edges_w k) (nearest_w k) words
  numbers₁ = only_part (edges_w k) (nearest_w k) ordered (inl (le_refl _))

  head_is : x ≡ head_of mode (length (edges_in k floats words n)) total
  head_is = hx ∙ ap (λ (q : ℕ). head_of mode q total) (sym (length_listed (edge_at k floats words) n))

  -- how many references there are
  many_is : many_by k floats x total (order_in k w₁ n) ≡ refs_of total (edges_in k floats words n)
  unfolding refs_of
  many_is =
      sum_to_ext (λ b. length (refs_by k floats x total (order_in k w₁ n) b)) (λ b. length (bucket_edges x total (edges_in k floats words n) b)) x.buckets
      (λ b l. sym (length-map (refs_by k floats x total (order_in k w₁ n) b) (edge_at k floats w₁)) ∙ ap length (bucket_read w₁ numbers₁ b))
      ∙ ap (λ (h : AngularIndex). sum_to (λ b. length (bucket_edges h total (edges_in k floats words n) b)) h.buckets) head_is
      ∙ sum_mode mode total (edges_in k floats words n)

  -- each edge is once in the order
  alike : (b : ℕ) → length (refs_by k floats x total (order_in k w₁ n) b) ≡ count_to k floats x total n b
  alike b =
      length_bucket (spans_at k floats x total) (order_in k w₁ n) b
      ∙ ap (sum_over (λ i. edge_bits (spans_at k floats x total i) b)) order_is
      ∙ order_sum (λ i. edge_bits (spans_at k floats x total i) b) (part 0 (0 + n) floats) n

  -- so there are as many by the order as by the edges as they stand
  pub refs_are : refs_to k floats x total n ≡ many_by k floats x total (order_in k w₁ n)
  refs_are =
      sym (many_refs (spans_at k floats x total) x.buckets (λ i. at_inside k floats x total i some_few.0) n)
      ∙ sym (sum_to_ext (λ b. length (refs_by k floats x total (order_in k w₁ n) b)) (count_to k floats x total n) x.buckets (λ b l. alike b))

  -- so few edges have not too many
  pub not_many : n < 32768 → refs_to k floats x total n ≤ 4294967295
  not_many h = omega (arith, refs_few (spans_at k floats x total) x.buckets (λ i. at_inside k floats x total i some_few.0) some_few.1 n)

  -- ---- it passes its entries
  module _ (refs : ℕ) (hr : refs ≡ refs_to k floats x total n) where
    over_by : over_of k x.buckets refs ≡ true → Builds mode k floats words n total (record { index = x; refs = refs; over = true }) w₁
    over_by e = record {
      head = hx;
      refs = hr ∙ refs_are ∙ many_is;
      over = sym e;
      stands = λ f. absurd (true≢false f);
      sound = λ f. absurd (true≢false f);
      between = w₁;
      ordered = ordered;
      filled = only_refl (starts_w k) (samples_w k) w₁;
    }

    pub over_starts : k.starts ≤ x.buckets → Builds mode k floats words n total (record { index = x; refs = refs; over = true }) w₁
    over_starts h = over_by (rw (lt-ltb k.starts (x.buckets + 1) (omega arith)))

    pub over_refs : x.buckets < k.starts → k.refs < refs → Builds mode k floats words n total (record { index = x; refs = refs; over = true }) w₁
    over_refs fits h = over_by (rw (le-ltb k.starts (x.buckets + 1) (omega arith), lt-ltb k.refs refs h))

  -- ---- the starts fit
  module _ (fits : x.buckets < k.starts) where
    pub fillable : refs_to k floats x total n ≤ 4294967295 → Fillable k floats x total n w₁
    fillable small = record { notable = record { ready = ready₁; some = some_few.0; few = some_few.1 }; starts_fit = fits; small = omega (arith, small, refs_are) }

    module _ (r : Indexed) (w₂ : List ℕ) (f : Filled k floats x total n w₁ r w₂) where
      -- the index that stands in the room
      stands_in : Held k floats x total n w₁ w₂ → index_in k floats w₂ x ≡ index_of mode total (edges_in k floats words n)
      unfolding index_in index_of made
      stands_in s =
          let numbers : part (edges_w k) (nearest_w k) w₂ ≡ part (edges_w k) (nearest_w k) words = only_part (edges_w k) (nearest_w k) f.only (inl (omega arith)) ∙ only_part (edges_w k) (nearest_w k) f.noted (inl (omega arith)) ∙ numbers₁ in
          ap (made x) (listed_ext (λ b. map (edge_at k floats w₂) (refs_at k w₂ b)) (bucket_edges x total (edges_in k floats words n)) x.buckets
          (λ b g. ap (map (edge_at k floats w₂)) (s.blocks b g) ∙ bucket_read w₂ numbers b))
          ∙ ap (λ (h : AngularIndex). made h (listed (bucket_edges h total (edges_in k floats words n)) h.buckets)) head_is

      sound_in : Held k floats x total n w₁ w₂ → Within k w₂ x
      sound_in s = record {
        some = some_few.0;
        starts_in = fits;
        refs_in = s.starts;
        named = λ b g. rw (s.blocks b g) (all_bucket (spans_at k floats x total) (λ i. i < k.edges) (order_in k w₁ n) b
            (rw order_is (all_map (λ i. i < n) (λ i. i < k.edges) (λ i l. omega (arith, ready.held)) (key_order (part 0 (0 + n) floats) n) (order_below (part 0 (0 + n) floats) n))));
      }

      pub done : Builds mode k floats words n total r w₂
      done =
          let e : r.index.buckets ≡ x.buckets = ap (λ (q : AngularIndex). q.buckets) f.index in
          record {
            head = f.index ∙ hx;
            refs = f.refs ∙ many_is;
            over = f.over ∙ ap (λ (t : Bool). t || ltb k.refs r.refs) (sym (le-ltb k.starts (r.index.buckets + 1) (omega arith)));
            stands = λ o. ap (index_in k floats w₂) f.index ∙ stands_in (f.stands o);
            sound = λ o. subst (Within k w₂) (sym f.index) (sound_in (f.stands o));
            between = f.between;
            ordered = only_trans ordered (only_wider (nearest_w k) (events_w k) (omega arith) (le_refl _) f.noted);
            filled = f.only;
          }

-- The starts and the references from beginning to end: noted, cleared, counted, summed up, put in. Assumes nothing.
use Rattle.std.proofs.Common.{◌≡◌, ℕ, suc, ◌+◌, ◌-◌, ◌%◌, ◌<◌, ◌≤◌, Bool, true, false, List, ◌++◌, length, get_or, take, drop, replicate, sym, refl, ap, ◌∙◌, subst, inl, ⊎_elim, true≢false, le_refl, arith, get_or-drop, drop-drop, drop_at, le-ltb, lt-ltb}
use lib.Ieee.{Float}
use borrow.Rule.Slice.PartMut.{mid_of, put_mid, mid_len, same_len_mid}
use Rattle.lists.specs.Lists.{sum_to, joined}
use Rattle.lists.specs.Parts.{part, Only}
use Rattle.lists.proofs.Cases.{lt_or_le}
use Rattle.lists.proofs.Sums.{sum_to_ext, sum_to_step, sum_to_mono, sum_to_zero}
use Rattle.lists.proofs.Joined.{length_joined, joined_part}
use Rattle.lists.proofs.Zeros.{get_d_zeros}
use Rattle.lists.proofs.Parts.{front_get_d, front_part, get_d_part, part_drop}
use Rattle.lists.proofs.Only.{only_trans, only_wider, only_put, only_part, get_d_put}
use Rattle.room.specs.declared.Rooms.{Rooms}
use Rattle.room.specs.Layout.{nearest_w, starts_w, refs_w, samples_w}
use Rattle.index.specs.declared.AngularIndex.{AngularIndex}
use Rattle.index.specs.declared.Indexed.{Indexed}
use Rattle.index.specs.Stands.{Ready}
use Rattle.index.specs.Filling.{spans_at, order_in, refs_by, many_by, notes_w, said_by, Noted, Notes, tally_of, Counting, Counted, Endable, Ended, Putting, Placed, Fillable, Filled}
use Rattle.index.proofs.Buckets.{at_inside, none_past}

-- a part that was lent and came back as zeros
zeroed : (a e : ℕ) (l v : List ℕ) → a ≤ e → e ≤ length l → v ≡ replicate (length (mid_of a (e - a) l)) 0 → length v ≡ length (mid_of a (e - a) l) → (j : ℕ) → a + j < e → get_or (put_mid a (e - a) l v) (a + j) 0 ≡ 0
zeroed a e l v h k z lv j g =
    let m = mid_len a e l k in
    get_d_put a e l v j 0 (omega arith) (omega (arith, lv, m)) ∙ ap (λ (q : List ℕ). get_or q j 0) z ∙ get_d_zeros 0 (length (mid_of a (e - a) l)) j

-- the order of nearness and the notes stand in front of the starts
order_kept : (k : Rooms) (n : ℕ) (w₀ w : List ℕ) → n ≤ k.edges → take (starts_w k) w ≡ take (starts_w k) w₀ → order_in k w n ≡ order_in k w₀ n
order_kept k n w₀ w h f = front_part (starts_w k) (nearest_w k) (nearest_w k + n) w w₀ (omega arith) f

noted_kept : (k : Rooms) (floats : List Float) (x : AngularIndex) (total : Float) (n : ℕ) (w₀ w : List ℕ) → n ≤ k.edges → take (starts_w k) w ≡ take (starts_w k) w₀
    → Noted k floats x total n w₀ → Noted k floats x total n w
noted_kept k floats x total n w₀ w h f noted r l =
    let p : get_or w₀ (notes_w k + r) 0 ≡ get_or w (notes_w k + r) 0 = sym (front_get_d (starts_w k) w w₀ (notes_w k + r) 0 (omega arith) f) in
    let o : get_or w₀ (nearest_w k + r) 0 ≡ get_or w (nearest_w k + r) 0 = sym (front_get_d (starts_w k) w w₀ (nearest_w k + r) 0 (omega arith) f) in
    subst (λ (q : ℕ). said_by q (spans_at k floats x total (get_or w (nearest_w k + r) 0)) ≡ spans_at k floats x total (get_or w (nearest_w k + r) 0)) p
    (subst (λ (i : ℕ). said_by (get_or w₀ (notes_w k + r) 0) (spans_at k floats x total i) ≡ spans_at k floats x total i) o (noted r l))

module _ (k : Rooms) (floats : List Float) (x : AngularIndex) (total : Float) (n : ℕ) (w₀ : List ℕ) (pre : Endable k floats x total n w₀) where
  -- how many references the bucket b has
  abbrev many : ℕ → ℕ
  many b = length (refs_by k floats x total (order_in k w₀ n) b)

  many_past : (b : ℕ) → x.buckets ≤ b → many b ≡ 0
  many_past b h = ap length (none_past (spans_at k floats x total) x.buckets (λ i. at_inside k floats x total i pre.some) (order_in k w₀ n) b h)

  ready_kept : (w : List ℕ) → length w ≡ length w₀ → Ready k floats w n
  ready_kept w e =
      record { fit = record { floats_fit = pre.ready.fit.floats_fit; words_fit = omega (arith, pre.ready.fit.words_fit) }; held = pre.ready.held }

  -- ---- cleared
  pub record Blank (w : List ℕ) : Type 0 where
    pub only : Only (starts_w k) (refs_w k) w₀ w
    pub zero_starts : (b : ℕ) → b ≤ x.buckets → get_or (drop (starts_w k) w) b 0 ≡ 0

  module _ (st se : ℕ) (hst : st ≡ starts_w k) (hse : se ≡ starts_w k + x.buckets + 1) where
    se_fits : (w : List ℕ) → length w ≡ length w₀ → se ≤ length w
    se_fits w e = omega (arith, pre.ready.fit.words_fit, pre.starts_fit, hse, e)

    only_starts : (w v : List ℕ) → length w ≡ length w₀ → length v ≡ length (mid_of st (se - st) w) → Only (starts_w k) (refs_w k) w (put_mid st (se - st) w v)
    only_starts w v e lv =
        only_wider (starts_w k) (refs_w k) (omega (arith, hst)) (omega (arith, hse, pre.starts_fit)) (only_put st se w v (omega (arith, hst, hse)) (se_fits w e) (lv ∙ mid_len st se w (se_fits w e)))

    pub blank : (v : List ℕ) → length v ≡ length (mid_of st (se - st) w₀) → v ≡ replicate (length (mid_of st (se - st) w₀)) 0 → Blank (put_mid st (se - st) w₀ v)
    blank v lv z =
        let w = put_mid st (se - st) w₀ v in
        record {
          only = only_starts w₀ v refl lv;
          zero_starts = λ b g.
              get_or-drop (starts_w k) w b 0 ∙ ap (λ (q : ℕ). get_or w (q + b) 0) (sym hst) ∙ zeroed st se w₀ v (omega (arith, hst, hse)) (se_fits w₀ refl) z lv b (omega (arith, hst, hse));
        }

    -- ---- counted
    module _ (w₁ : List ℕ) (cl : Blank w₁) where
      order₁ : (b : ℕ) → length (refs_by k floats x total (order_in k w₁ n) b) ≡ many b
      order₁ b = ap (λ (q : List ℕ). length (refs_by k floats x total q b)) (order_kept k n w₀ w₁ pre.ready.held cl.only.front)

      pub counting : Counting k floats x total n w₁
      counting = record {
        ready = ready_kept w₁ cl.only.long;
        some = pre.some;
        starts_fit = pre.starts_fit;
        noted = noted_kept k floats x total n w₀ w₁ pre.ready.held cl.only.front pre.noted;
      }

      -- no bucket has more than all together
      many_few : (b : ℕ) → many b ≤ 4294967295
      many_few b =
          ⊎_elim
          (λ g. omega (arith, sum_to_step many b x.buckets g, pre.small))
          (λ g. omega (arith, many_past b g))
          (lt_or_le b x.buckets)

      -- the marks come to nothing before
      none_yet : (b : ℕ) → b ≤ x.buckets → tally_of (drop (starts_w k) w₁) b ≡ 0
      none_yet b g =
          ap (λ (q : ℕ). q % 4294967296) (sum_to_ext (λ j. get_or (drop (starts_w k) w₁) j 0) (λ _. 0) (suc b) (λ j l. cl.zero_starts j (omega arith)) ∙ sum_to_zero (suc b))

      module _ (w₂ : List ℕ) (l₂ : length w₂ ≡ length w₁) (cs : Counted k floats x total n w₁ w₂) where
        long₂ : length w₂ ≡ length w₀
        long₂ = l₂ ∙ cl.only.long

        only₂ : Only (starts_w k) (refs_w k) w₀ w₂
        only₂ = only_trans cl.only cs.only

        -- what is to be summed up
        lent_at : (j : ℕ) → j ≤ x.buckets → get_or (mid_of st (se - st) w₂) j 0 ≡ get_or (drop (starts_w k) w₂) j 0
        lent_at j g = get_d_part st se w₂ j 0 (omega (arith, hst, hse)) ∙ ap (λ (q : ℕ). get_or w₂ (q + j) 0) hst ∙ sym (get_or-drop (starts_w k) w₂ j 0)

        tally_at : (b : ℕ) → b ≤ x.buckets → tally_of (mid_of st (se - st) w₂) b ≡ many b
        tally_at b g =
            ap (λ (q : ℕ). q % 4294967296)
            (sum_to_ext (λ j. get_or (mid_of st (se - st) w₂) j 0) (λ j. get_or (drop (starts_w k) w₂) j 0) (suc b) (λ j l. lent_at j (omega arith)))
            ∙ cs.tallies b ∙ omega (arith, none_yet b g, order₁ b, many_few b)

        sum_to_lem : (b : ℕ) → b ≤ x.buckets → sum_to (tally_of (mid_of st (se - st) w₂)) (suc b) ≡ sum_to many (suc b)
        sum_to_lem b g = sum_to_ext (tally_of (mid_of st (se - st) w₂)) many (suc b) (λ j l. tally_at j (omega arith))

        -- the last sum is that of all
        sum_last : sum_to many (suc x.buckets) ≡ many_by k floats x total (order_in k w₀ n)
        sum_last = omega (arith, many_past x.buckets (omega arith))

        pub sum_room : sum_to (tally_of (mid_of st (se - st) w₂)) (length (mid_of st (se - st) w₂)) ≤ 4294967295
        sum_room =
            let long : length (mid_of st (se - st) w₂) ≡ suc x.buckets = omega (arith, mid_len st se w₂ (se_fits w₂ long₂), hst, hse) in
            let top : sum_to (tally_of (mid_of st (se - st) w₂)) (length (mid_of st (se - st) w₂)) ≡ sum_to many (suc x.buckets)
            = ap (sum_to (tally_of (mid_of st (se - st) w₂))) long ∙ sum_to_lem x.buckets (omega arith) in
            omega (arith, top, sum_last, pre.small)

        -- ---- summed up
        module _ (count : ℕ) (hc : count ≡ x.buckets) (v : List ℕ) (lv : length v ≡ length (mid_of st (se - st) w₂)) (low : (b : ℕ) → b < length (mid_of st (se - st) w₂) → get_or v b 0 ≡ sum_to (tally_of (mid_of st (se - st) w₂)) (suc b)) where
          summed_at : (b : ℕ) → b ≤ x.buckets → get_or (put_mid st (se - st) w₂ v) (st + b) 0 ≡ sum_to many (suc b)
          summed_at b g =
              let m = mid_len st se w₂ (se_fits w₂ long₂) in
              get_d_put st se w₂ v b 0 (omega (arith, se_fits w₂ long₂, hst, hse)) (omega (arith, lv, m, hst, hse)) ∙ low b (omega (arith, m, hst, hse)) ∙ sum_to_lem b g

          pub last_in : st + count < length (put_mid st (se - st) w₂ v)
          last_in = omega (arith, se_fits w₂ long₂, hst, hse, hc, same_len_mid st (se - st) w₂ v lv)

          pub ended : (refs : ℕ) → refs ≡ get_or (put_mid st (se - st) w₂ v) (st + count) 0 → Ended k floats x total n w₀ refs (put_mid st (se - st) w₂ v)
          ended refs e = record {
            only = only_trans only₂ (only_starts w₂ v long₂ lv);
            ends = λ b g. get_or-drop (starts_w k) (put_mid st (se - st) w₂ v) b 0 ∙ ap (λ (q : ℕ). get_or (put_mid st (se - st) w₂ v) (q + b) 0) (sym hst) ∙ summed_at b g;
            refs_are = e ∙ ap (λ (q : ℕ). get_or (put_mid st (se - st) w₂ v) (st + q) 0) hc ∙ summed_at x.buckets (omega arith) ∙ sum_last;
          }

-- ---- the notes are written
module _ (k : Rooms) (floats : List Float) (x : AngularIndex) (total : Float) (n : ℕ) (w₀ : List ℕ) (pre : Fillable k floats x total n w₀) (w₁ : List ℕ) (nt : Notes k floats x total n w₀ w₁) where
  -- the references of the bucket b
  abbrev block : ℕ → List ℕ
  block b = refs_by k floats x total (order_in k w₀ n) b

  -- the order of nearness stands in front of them
  order_noted : order_in k w₁ n ≡ order_in k w₀ n
  order_noted = only_part (nearest_w k) (nearest_w k + n) nt.only (inl (omega (arith, pre.notable.ready.held)))

  pub endable : Endable k floats x total n w₁
  endable = record {
    ready = record {
      fit = record { floats_fit = pre.notable.ready.fit.floats_fit; words_fit = omega (arith, pre.notable.ready.fit.words_fit, nt.only.long) };
      held = pre.notable.ready.held;
    };
    some = pre.notable.some;
    starts_fit = pre.starts_fit;
    noted = nt.noted;
    small = subst (λ (q : List ℕ). many_by k floats x total q ≤ 4294967295) (sym order_noted) pre.small;
  }

  -- ---- the ends are written
  module _ (refs : ℕ) (w₂ : List ℕ) (en : Ended k floats x total n w₁ refs w₂) where
    all_are : many_by k floats x total (order_in k w₀ n) ≡ refs
    all_are = ap (many_by k floats x total) (sym order_noted) ∙ sym en.refs_are

    order_same : order_in k w₂ n ≡ order_in k w₀ n
    order_same = order_kept k n w₁ w₂ pre.notable.ready.held en.only.front ∙ order_noted

    ends_are : (b : ℕ) → b ≤ x.buckets → get_or (drop (starts_w k) w₂) b 0 ≡ sum_to (λ j. length (block j)) (suc b)
    ends_are b g = en.ends b g ∙ ap (λ (q : List ℕ). sum_to (λ j. length (refs_by k floats x total q j)) (suc b)) order_noted

    only_wide : Only (starts_w k) (samples_w k) w₁ w₂
    only_wide = only_wider (starts_w k) (samples_w k) (le_refl _) (omega arith) en.only

    abbrev answer : Bool → Indexed
    answer over = record { index = x; refs = refs; over = over }

    pub passed : k.refs < refs → Filled k floats x total n w₀ (answer true) w₂
    passed h = record {
      index = refl;
      refs = sym all_are;
      over = sym (lt-ltb k.refs refs h);
      between = w₁;
      noted = nt.only;
      only = only_wide;
      stands = λ f. absurd (true≢false f);
    }

    module _ (few : refs ≤ k.refs) where
      pub putting : Putting k floats x total n w₂
      putting = record {
        ready = ready_kept k floats x total n w₁ endable w₂ en.only.long;
        some = pre.notable.some;
        few = pre.notable.few;
        starts_fit = pre.starts_fit;
        noted = noted_kept k floats x total n w₁ w₂ pre.notable.ready.held en.only.front nt.noted;
        refs_fit = subst (λ (q : List ℕ). many_by k floats x total q ≤ k.refs) (sym order_same) (omega (arith, all_are));
        ends = λ b g. subst (λ (q : List ℕ). get_or (drop (starts_w k) w₂) b 0 ≡ sum_to (λ j. length (refs_by k floats x total q j)) (suc b)) (sym order_same) (ends_are b (omega arith));
      }

      -- ---- put in
      module _ (w₃ : List ℕ) (l₃ : length w₃ ≡ length w₂) (pl : Placed k floats x total n w₂ w₃) where
        held : drop (refs_w k) w₃ ≡ joined block x.buckets ++ drop (refs_w k + refs) w₂
        held =
            subst (λ (q : List ℕ). drop (refs_w k) w₃ ≡ joined (refs_by k floats x total q) x.buckets ++ drop (refs_w k + many_by k floats x total q) w₂) order_same pl.refs
            ∙ ap (λ (q : ℕ). joined block x.buckets ++ drop (refs_w k + q) w₂) all_are

        start_at : (b : ℕ) → b ≤ x.buckets → get_or w₃ (starts_w k + b) 0 ≡ sum_to (λ j. length (block j)) b
        start_at b g =
            let p : get_or (drop (starts_w k) w₃) b 0 + length (block b) ≡ get_or (drop (starts_w k) w₂) b 0
            = subst (λ (q : List ℕ). get_or (drop (starts_w k) w₃) b 0 + length (refs_by k floats x total q b) ≡ get_or (drop (starts_w k) w₂) b 0) order_same (pl.starts b (omega (arith, pre.starts_fit))) in
            omega (arith, p, ends_are b g, get_or-drop (starts_w k) w₃ b 0)

        -- what is behind the references stays
        rest : drop (samples_w k) w₃ ≡ drop (samples_w k) w₂
        rest =
            let e : refs + (k.refs - refs) ≡ k.refs = omega arith in
            let f : refs_w k + refs + (k.refs - refs) ≡ samples_w k = omega arith in
            sym (drop-drop k.refs (refs_w k) w₃) ∙ ap (drop k.refs) held
            ∙ ap (λ (q : ℕ). drop q (joined block x.buckets ++ drop (refs_w k + refs) w₂)) (sym e)
            ∙ sym (drop-drop (k.refs - refs) refs (joined block x.buckets ++ drop (refs_w k + refs) w₂))
            ∙ ap (drop (k.refs - refs)) (drop_at (joined block x.buckets) (drop (refs_w k + refs) w₂) refs (length_joined block x.buckets ∙ all_are))
            ∙ drop-drop (k.refs - refs) (refs_w k + refs) w₂ ∙ ap (λ (q : ℕ). drop q w₂) f

        pub filled : Filled k floats x total n w₀ (answer false) w₃
        filled = record {
          index = refl;
          refs = sym all_are;
          over = sym (le-ltb k.refs refs few);
          between = w₁;
          noted = nt.only;
          only = only_trans only_wide (record { long = l₃; front = pl.front; rest = rest });
          stands = λ _. record {
            starts = λ b g. omega (arith, start_at b g, sum_to_mono (λ j. length (block j)) b x.buckets g, all_are, few);
            blocks = λ b g.
                ap (λ (q : ℕ). part (refs_w k + q) (refs_w k + get_or w₃ (starts_w k + suc b) 0) w₃) (start_at b (omega arith))
                ∙ ap (λ (q : ℕ). part (refs_w k + sum_to (λ j. length (block j)) b) (refs_w k + q) w₃) (start_at (suc b) g)
                ∙ sym (part_drop (refs_w k) (sum_to (λ j. length (block j)) b) (sum_to (λ j. length (block j)) (suc b)) w₃)
                ∙ ap (part (sum_to (λ j. length (block j)) b) (sum_to (λ j. length (block j)) (suc b))) held
                ∙ joined_part block x.buckets b (drop (refs_w k + refs) w₂) g;
          };
        }

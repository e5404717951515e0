-- The samples read through their order, and each way through `sample_rays`. Assumes nothing.
use mathlib.Core.Path.{◌≡◌, refl, sym, ap, ◌∙◌, subst}
use mathlib.Core.Logic.{inl}
use mathlib.Core.Bool.{Bool, true, false, cond}
use mathlib.Core.List.{List, [], ◌∷◌, map, map-map}
use Prim.Native.Nat.{ℕ, zero, suc, ◌+◌, ◌^◌, ◌≤◌, ◌<◌}
use native.Mathlib.Nat.{not-suc-le-zero}
use native.Mathlib.Omega.{arith}
use lib.ListN.{length, get_or, length-map}
use lib.Seq.{ext_get_or}
use lib.Ieee.{Float, nan}
use borrow.Author.Tests.{lt-ltb, le-ltb}
use borrow.Rule.Slice.PartMut.{mid_len}
use Rattle.lists.specs.Lists.{counting, listed}
use Rattle.lists.specs.Members.{All}
use Rattle.lists.specs.Parts.{part, Has, Only}
use Rattle.lists.proofs.Members.{all_at}
use Rattle.lists.proofs.Counting.{length_counting, all_counting}
use Rattle.lists.proofs.Joined.{listed_ext, length_listed, get_d_listed}
use Rattle.lists.proofs.Parts.{get_d_part, get_d_has}
use Rattle.lists.proofs.Only.{only_trans, only_wider, only_part}
use Rattle.sorts.specs.Sort.{sort}
use Rattle.sorts.specs.By.{key_order, key_order_if, in_order}
use Rattle.sorts.specs.Fronts.{Ordered, KeysFit}
use Rattle.sorts.proofs.Keyed.{read_order_if, length_order, order_below}
use Rattle.sorts.proofs.Stable.{map_sort}
use Rattle.num.specs.Ops.{◌⊕◌}
use Rattle.geom.specs.Vec.{from_angle_of}
use Rattle.cone.specs.declared.View.{View}
use Rattle.room.specs.declared.Rooms.{Rooms}
use Rattle.room.specs.declared.Sample.{Sample}
use Rattle.room.specs.Layout.{samples_f, floats_for, samples_w, order_w, seen_w}
use Rattle.room.specs.Records.{sample_at, samples_in, Noted}
use Rattle.room.proofs.Kept.{sample_kept, samples_kept, tie_kept}
use Rattle.index.specs.declared.AngularIndex.{AngularIndex}
use Rattle.index.specs.Angular.{Index}
use Rattle.index.specs.Stands.{index_in}
use Rattle.index.proofs.Kept.{within_behind, index_behind}
use Rattle.rays.specs.Samples.{samples_of, earlier, ordered_of, Lone, cast_ray, rays_cast}
use Rattle.rays.specs.Stands.{turn_at, rays_in, Held, Emits, Castable, Casts, Sampling, Sampled}
use Rattle.rays.proofs.Answers.{map_listed}

-- ---- lists by their places
get_d_map : {A : Type 0} (g : ℕ → A) (l : List ℕ) (i : ℕ) (d : A) → i < length l → get_or (map g l) i d ≡ g (get_or l i 0)
get_d_map g [] i d h = absurd (not-suc-le-zero h)
get_d_map g (x ∷ l) zero d h = refl
get_d_map g (x ∷ l) (suc i) d h = get_d_map g l i d (omega arith)

map_places : {A : Type 0} (g : ℕ → A) (l : List ℕ) (d : A) → map g l ≡ listed (λ t. g (get_or l t 0)) (length l)
map_places g l d =
    let m : length (map g l) ≡ length l = length-map l g in
    ext_get_or d (map g l) (listed (λ t. g (get_or l t 0)) (length l)) (m ∙ sym (length_listed (λ t. g (get_or l t 0)) (length l)))
    (λ i h. get_d_map g l i d (omega arith) ∙ sym (get_d_listed (λ t. g (get_or l t 0)) (length l) i d (omega arith)))

part_places : (a n : ℕ) (l : List Float) → a + n ≤ length l → part a (a + n) l ≡ listed (λ t. get_or l (a + t) nan) n
part_places a n l h =
    let m : length (part a (a + n) l) ≡ n = mid_len a (a + n) l h ∙ omega arith in
    ext_get_or nan (part a (a + n) l) (listed (λ t. get_or l (a + t) nan) n) (m ∙ sym (length_listed (λ t. get_or l (a + t) nan) n))
    (λ i g. get_d_part a (a + n) l i nan (omega arith) ∙ sym (get_d_listed (λ t. get_or l (a + t) nan) n i nan (omega arith)))

length_order_if : (keys : List Float) (n : ℕ) → length (key_order_if keys n) ≡ n
unfolding key_order_if
length_order_if keys n = by (in_order keys)
  where
    by : (b : Bool) → length (cond b (counting 0 n) (key_order keys n)) ≡ n
    by true = length_counting 0 n
    by false = length_order keys n

order_if_below : (keys : List Float) (n : ℕ) → All (λ i. i < n) (key_order_if keys n)
unfolding key_order_if
order_if_below keys n = by (in_order keys)
  where
    by : (b : Bool) → All (λ i. i < n) (cond b (counting 0 n) (key_order keys n))
    by true = all_counting (λ i. i < n) 0 n (λ i _ h. omega arith)
    by false = order_below keys n

-- ---- the order of samples goes by their angles alone
module _ (view : View) (x : Index) where
  angles_cast : (l : List Sample) → map (λ s. s.angle) (map (cast_ray view x) l) ≡ map (λ s. s.angle) l
  angles_cast l = map-map (λ s. s.angle) (cast_ray view x) l

  order_cast : (l : List Sample) → ordered_of (map (cast_ray view x) l) ≡ rays_cast view x l
  unfolding ordered_of rays_cast
  order_cast l = ap (λ (q : List Float). cond (in_order q) (map (cast_ray view x) l) (sort earlier (map (cast_ray view x) l))) (angles_cast l) ∙ by (in_order (map (λ s. s.angle) l))
    where
      by : (b : Bool) → cond b (map (cast_ray view x) l) (sort earlier (map (cast_ray view x) l)) ≡ map (cast_ray view x) (cond b l (sort earlier l))
      by true = refl
      by false = sym (map_sort earlier (cast_ray view x) l)

-- ---- what stands in the room
module _ (k : Rooms) (f : List Float) (w : List ℕ) (n : ℕ) (fits : floats_for k ≤ length f) (few : n ≤ k.samples) where
  angle_at : (i : ℕ) → i < n → get_or (part (samples_f k) (samples_f k + n) f) i nan ≡ (sample_at k f w i).angle
  unfolding sample_at
  angle_at i h = get_d_part (samples_f k) (samples_f k + n) f i nan (omega arith)

  angles_are : part (samples_f k) (samples_f k + n) f ≡ map (λ s. s.angle) (samples_in k f w n)
  unfolding sample_at
  angles_are = part_places (samples_f k) n f (omega arith) ∙ sym (map_listed (λ s. s.angle) (sample_at k f w) n)

  pub ordered_is : (c : ℕ) → c ≡ order_w k → Has w c (key_order_if (part (samples_f k) (samples_f k + n) f) n) → rays_in k f w n ≡ ordered_of (samples_in k f w n)
  unfolding ordered_of
  ordered_is c hc has =
      let keys = part (samples_f k) (samples_f k + n) f in
      let order = key_order_if keys n in
      let long : length order ≡ n = length_order_if keys n in
      listed_ext (λ t. sample_at k f w (get_or w (order_w k + t) 0)) (λ t. sample_at k f w (get_or order t 0)) n
      (λ t h. ap (sample_at k f w) (ap (λ (q : ℕ). get_or w (q + t) 0) (sym hc) ∙ get_d_has w c order t 0 has (omega arith)))
      ∙ ap (λ (q : ℕ). listed (λ t. sample_at k f w (get_or order t 0)) q) (sym long)
      ∙ sym (map_places (sample_at k f w) order (sample_at k f w 0))
      ∙ read_order_if (sample_at k f w) (λ s. s.angle) keys n angle_at
      ∙ ap (λ (q : List Float). cond (in_order q) (samples_in k f w n) (sort earlier (samples_in k f w n))) angles_are

-- ---- all of it: f₁ and w₁ after the sampling, f₂ and w₂ after the casts, w₃ after the ordering
module _ (k : Rooms) (view : View) (x : AngularIndex) (events : ℕ) (f₀ : List Float) (w₀ : List ℕ) (pre : Sampling k x f₀ w₀ events) (n : ℕ) (f₁ : List Float) (w₁ : List ℕ)
    (e : Emits k (samples_of view (turn_at k f₀ w₀) events) 0 n f₀ w₀ f₁ w₁) where
  sampled : Held k f₁ w₁ n (samples_of view (turn_at k f₀ w₀) events)
  sampled = e.held [] (record { count = refl; list = λ _. refl })

  pub too_many : k.samples < n → Sampled k view x events f₀ w₀ (record { samples = n; over = true }) f₁ w₁
  too_many h = record {
    samples = sampled.count;
    over = sym (lt-ltb k.samples n h);
    rays = λ q. absurd (let z : ◌≡◌ {A = ℕ} 0 1 = cc in omega arith);
    below = λ q. absurd (let z : ◌≡◌ {A = ℕ} 0 1 = cc in omega arith);
    noted = λ q. absurd (let z : ◌≡◌ {A = ℕ} 0 1 = cc in omega arith);
    floats = e.floats;
    words = only_wider (samples_w k) (seen_w k) (omega arith) (omega arith) e.words;
  }

  module _ (few : n ≤ k.samples) where
    pub castable : Castable k x f₁ w₁ n
    castable = record {
      fit = record { floats_fit = omega (arith, pre.fit.floats_fit, e.floats.long); words_fit = omega (arith, pre.fit.words_fit, e.words.long) };
      held = few;
      sound = within_behind k f₀ f₁ w₀ w₁ x pre.sound e.floats e.words (omega arith) (omega arith);
    }

    module _ (f₂ : List Float) (w₂ : List ℕ) (cs : Casts k view x n f₁ w₁ f₂ w₂) (at c z : ℕ) (hat : at ≡ samples_f k) (hc : c ≡ order_w k) (hz : z ≡ seen_w k) where
      pub keys_fit : n < 2 ^ 32 → KeysFit at n c z f₂ w₂
      keys_fit u = record {
        keys = omega (arith, pre.fit.floats_fit, e.floats.long, cs.floats.long, hat);
        room = omega (arith, hc, hz);
        inside = omega (arith, pre.fit.words_fit, e.words.long, cs.words.long, hz);
        small = u;
      }

      first_index : index_in k f₁ w₁ x ≡ index_in k f₀ w₀ x
      first_index = index_behind k f₀ f₁ w₀ w₁ x pre.sound e.floats e.words (omega arith) (omega arith)

      -- the samples with their answers
      answers : samples_in k f₂ w₂ n ≡ map (cast_ray view (index_in k f₀ w₀ x)) (samples_of view (turn_at k f₀ w₀) events)
      answers =
          cs.list ∙ ap (λ (q : Index). map (cast_ray view q) (samples_in k f₁ w₁ n)) first_index
          ∙ ap (map (cast_ray view (index_in k f₀ w₀ x))) (sampled.list few)

      pub all_done : (w₃ : List ℕ) → Ordered (key_order_if (part at (at + n) f₂) n) c z w₂ w₃ → Sampled k view x events f₀ w₀ (record { samples = n; over = false }) f₂ w₃
      all_done w₃ o =
          let o' : Only (order_w k) (seen_w k) w₂ w₃ = subst (λ (q : ℕ). Only q (seen_w k) w₂ w₃) hc (subst (λ (q : ℕ). Only c q w₂ w₃) hz o.only) in
          let has : Has w₃ c (key_order_if (part (samples_f k) (samples_f k + n) f₂) n) = subst (λ (q : ℕ). Has w₃ c (key_order_if (part q (q + n) f₂) n)) hat o.list in
          let fits : floats_for k ≤ length f₂ = omega (arith, pre.fit.floats_fit, e.floats.long, cs.floats.long) in
          let stay : part (samples_w k) (order_w k) w₃ ≡ part (samples_w k) (order_w k) w₂ = only_part (samples_w k) (order_w k) o' (inl (omega arith)) in
          let kept : samples_in k f₂ w₃ n ≡ samples_in k f₂ w₂ n = samples_kept k f₂ f₂ w₂ w₃ n few refl stay in
          let order = key_order_if (part (samples_f k) (samples_f k + n) f₂) n in
          let long : length order ≡ n = length_order_if (part (samples_f k) (samples_f k + n) f₂) n in
          let place : (t : ℕ) → t < n → get_or w₃ (order_w k + t) 0 < n = λ t l.
          let at : get_or w₃ (order_w k + t) 0 ≡ get_or order t 0 = ap (λ (q : ℕ). get_or w₃ (q + t) 0) (sym hc) ∙ get_d_has w₃ c order t 0 has (omega arith) in
          let b : get_or order t 0 < n = all_at (λ i. i < n) order t 0 (order_if_below (part (samples_f k) (samples_f k + n) f₂) n) (omega arith) in
          omega arith in
          let noted : Noted k view.start (Lone view (index_in k f₀ w₀ x)) f₂ w₃ n = λ t l.
          let j = get_or w₃ (order_w k + t) 0 in
          let in_room : j < k.samples = omega (arith, place t l) in
          let same : sample_at k f₂ w₂ j ≡ sample_at k f₂ w₃ j = sym (sample_kept k f₂ f₂ w₂ w₃ j in_room refl stay) in (
            cs.dirs j (place t l) ∙ ap (λ (q : Sample). from_angle_of (view.start ⊕ q.angle)) same,
            λ z. subst (Lone view (index_in k f₀ w₀ x)) same (subst (λ (q : Index). Lone view q (sample_at k f₂ w₂ j)) first_index (cs.ties j (place t l) (sym (tie_kept k f₂ f₂ w₂ w₃ j in_room stay) ∙ z))),
          ) in
          record {
            samples = sampled.count;
            over = sym (le-ltb k.samples n few);
            below = λ _ t l. omega (arith, place t l);
            noted = λ _. noted;
            rays = λ _. ordered_is k f₂ w₃ n fits few c hc has ∙ ap ordered_of (kept ∙ answers) ∙ order_cast view (index_in k f₀ w₀ x) (samples_of view (turn_at k f₀ w₀) events);
            floats = only_trans e.floats (only_wider (samples_f k) (floats_for k) (omega arith) (omega arith) cs.floats);
            words = only_trans (only_wider (samples_w k) (seen_w k) (omega arith) (omega arith) (only_trans e.words cs.words)) (only_wider (samples_w k) (seen_w k) (omega arith) (omega arith) o');
          }

-- One sample's answer, direction and tie, and those of the samples before i. Assumes nothing.
use Rattle.std.proofs.Common.{Option}
use mathlib.Core.Path.{◌≡◌, refl, sym, ap, ◌∙◌, subst}
use mathlib.Core.Logic.{inl, inr, ⊎_elim}
use mathlib.Core.Bool.{Bool}
use mathlib.Core.List.{List, [], ◌∷◌, ◌++◌, map, map-append}
use Prim.Native.Nat.{ℕ, zero, suc, ◌+◌, ◌≤◌, ◌<◌}
use native.Mathlib.Omega.{arith}
use lib.ListN.{length}
use lib.Ieee.{Float}
use Rattle.num.specs.Ops.{◌⊕◌}
use Rattle.lists.specs.Lists.{listed}
use Rattle.lists.specs.Parts.{Only}
use Rattle.lists.proofs.Cases.{lt_or_le, eq_or_ne}
use Rattle.lists.proofs.Joined.{listed_ext}
use Rattle.lists.proofs.Only.{only_refl, only_trans, only_wider, only_part}
use Rattle.geom.specs.declared.Vec2.{Vec2}
use Rattle.geom.specs.Vec.{from_angle_of}
use Rattle.cone.specs.declared.View.{View}
use Rattle.room.specs.declared.Rooms.{Rooms}
use Rattle.room.specs.declared.Sample.{Sample}
use Rattle.room.specs.Layout.{samples_f, distances_f, dirs_f, floats_for, samples_w, order_w, Place}
use Rattle.room.specs.Records.{tie_of, sample_at, dir_at, tie_at, with_hit, HitPut, DirPut}
use Rattle.room.proofs.Kept.{sample_kept, dir_kept}
use Rattle.index.specs.declared.AngularIndex.{AngularIndex}
use Rattle.index.specs.Angular.{Index}
use Rattle.index.specs.Casting.{cast_of, is_tied}
use Rattle.index.specs.Stands.{index_in}
use Rattle.index.proofs.Kept.{index_behind}
use Rattle.rays.specs.Samples.{hit_of, tied_on, Lone, cast_ray}
use Rattle.rays.specs.Stands.{Answer, Castable, Casts}
use Rattle.rays.proofs.Ways.{cast_is, tied_is}
use Rattle.site.specs.declared.RayHit.{RayHit}

pub map_listed : {A B : Type 0} (g : A → B) (f : ℕ → A) (n : ℕ) → map g (listed f n) ≡ listed (λ i. g (f i)) n
map_listed g f zero = refl
map_listed g f (suc n) = map-append g (listed f n) (f n ∷ []) ∙ ap (λ (q : List _). q ++ (g (f n) ∷ [])) (map_listed g f n)

-- ---- one sample: f₁ and w' after its answer, f' after its direction
module _ (k : Rooms) (view : View) (x : AngularIndex) (i : ℕ) (f : List Float) (w : List ℕ) (below : i < k.samples) (s : Sample) (hs : s ≡ sample_at k f w i) (d : Vec2) (hd : d ≡ from_angle_of (view.start ⊕ s.angle))
    (h : (Option RayHit)) (hh : h ≡ cast_of (index_in k f w x) view.o s.angle d view.r) (tied : Bool) (ht : tied ≡ is_tied (index_in k f w x) view.o s.angle d view.r)
    (f₁ : List Float) (w' : List ℕ) (put : HitPut k i h tied f w f₁ w') (f' : List Float) (dput : DirPut k i d f₁ f') where
  -- writing the direction leaves the samples, and writing the answer leaves the directions
  same_sample : (j : ℕ) → j < k.samples → sample_at k f' w' j ≡ sample_at k f₁ w' j
  same_sample j l = sample_kept k f₁ f' w' w' j l (only_part (samples_f k) (dirs_f k) dput.floats (inl (omega arith))) refl

  same_dir : (j : ℕ) → j < k.samples → dir_at k f₁ j ≡ dir_at k f j
  same_dir j l = dir_kept k f f₁ w w' j l (only_part (dirs_f k) (floats_for k) put.put.floats (inr (omega arith)))

  pub answer_put : Answer k view x i f w f' w'
  answer_put = record {
    hit = record {
      here = same_sample i below ∙ put.put.entry.here ∙ ap (with_hit (sample_at k f w i)) (cast_is view (index_in k f w x) (sample_at k f w i) hs hd hh);
      others = λ j l n. same_sample j l ∙ put.put.entry.others j l n;
    };
    dir = record {
      here = dput.entry.here ∙ hd ∙ ap (λ (q : Sample). from_angle_of (view.start ⊕ q.angle)) hs;
      others = λ j l n. dput.entry.others j l n ∙ same_dir j l;
    };
    tie = record {
      here = put.tie.here
          ∙ ap (λ (q : (Option RayHit)). tie_of q tied) (cast_is view (index_in k f w x) (sample_at k f w i) hs hd hh)
          ∙ ap (tie_of (hit_of view (index_in k f w x) (sample_at k f w i).angle)) (tied_is view (index_in k f w x) (sample_at k f w i) hs hd ht);
      others = put.tie.others;
    };
    floats = only_trans (only_wider (distances_f k) (floats_for k) (omega arith) (omega arith) put.put.floats) (only_wider (distances_f k) (floats_for k) (omega arith) (omega arith) dput.floats);
    words = put.put.words;
  }

-- the tie of the cast at an angle
abbrev tie_by : View → Index → Float → Bool
tie_by view x angle = tie_of (hit_of view x angle) (tied_on view x angle)

-- ---- the samples before i
pub record Answered (k : Rooms) (view : View) (x : AngularIndex) (n : ℕ) (f₀ : List Float) (w₀ : List ℕ) (f : List Float) (w : List ℕ) (i : ℕ) : Type 0 where
  pub left : i ≤ n
  pub done : (j : ℕ) → j < i → sample_at k f w j ≡ cast_ray view (index_in k f₀ w₀ x) (sample_at k f₀ w₀ j)
  pub dirs : (j : ℕ) → j < i → dir_at k f j ≡ from_angle_of (view.start ⊕ (sample_at k f₀ w₀ j).angle)
  pub ties : (j : ℕ) → j < i → tie_at k w j ≡ tie_by view (index_in k f₀ w₀ x) (sample_at k f₀ w₀ j).angle
  pub rest : (j : ℕ) → i ≤ j → j < k.samples → sample_at k f w j ≡ sample_at k f₀ w₀ j
  pub floats : Only (distances_f k) (floats_for k) f₀ f
  pub words : Only (samples_w k) (order_w k) w₀ w

module _ (k : Rooms) (view : View) (x : AngularIndex) (n : ℕ) (f₀ : List Float) (w₀ : List ℕ) (pre : Castable k x f₀ w₀ n) where
  pub answered_none : Answered k view x n f₀ w₀ f₀ w₀ 0
  answered_none = record {
    left = omega arith;
    done = λ j h. absurd (omega arith);
    dirs = λ j h. absurd (omega arith);
    ties = λ j h. absurd (omega arith);
    rest = λ j h l. refl;
    floats = only_refl (distances_f k) (floats_for k) f₀;
    words = only_refl (samples_w k) (order_w k) w₀;
  }

  module _ (f : List Float) (w : List ℕ) (i : ℕ) (t : Answered k view x n f₀ w₀ f w i) where
    pub answer_place : i < n → Place k (length f) (length w) k.samples i
    answer_place h = record {
      fit = record { floats_fit = omega (arith, pre.fit.floats_fit, t.floats.long); words_fit = omega (arith, pre.fit.words_fit, t.words.long) };
      below = omega (arith, pre.held);
    }

    pub answered_more : i < n → (f' : List Float) (w' : List ℕ) → Answer k view x i f w f' w' → Answered k view x n f₀ w₀ f' w' (i + 1)
    answered_more g f' w' put =
        let below : i < k.samples = omega (arith, pre.held) in
        let same : sample_at k f w i ≡ sample_at k f₀ w₀ i = t.rest i (omega arith) below in
        let index : index_in k f w x ≡ index_in k f₀ w₀ x = index_behind k f₀ f w₀ w x pre.sound t.floats t.words (omega arith) (omega arith) in
        let here : sample_at k f' w' i ≡ cast_ray view (index_in k f₀ w₀ x) (sample_at k f₀ w₀ i)
        = put.hit.here ∙ ap (λ (q : Index). cast_ray view q (sample_at k f w i)) index ∙ ap (cast_ray view (index_in k f₀ w₀ x)) same in
        let there : dir_at k f' i ≡ from_angle_of (view.start ⊕ (sample_at k f₀ w₀ i).angle) = put.dir.here ∙ ap (λ (q : Sample). from_angle_of (view.start ⊕ q.angle)) same in
        let tied : tie_at k w' i ≡ tie_by view (index_in k f₀ w₀ x) (sample_at k f₀ w₀ i).angle
        = put.tie.here ∙ ap (λ (q : Index). tie_by view q (sample_at k f w i).angle) index ∙ ap (λ (q : Sample). tie_by view (index_in k f₀ w₀ x) q.angle) same in
        record {
          left = omega arith;
          done = λ j l.
              ⊎_elim
              (λ q. subst (λ (a : ℕ). sample_at k f' w' a ≡ cast_ray view (index_in k f₀ w₀ x) (sample_at k f₀ w₀ a)) (sym q) here)
              (λ q. put.hit.others j (omega arith) q ∙ t.done j (below_it j l q))
              (eq_or_ne j i);
          dirs = λ j l.
              ⊎_elim
              (λ q. subst (λ (a : ℕ). dir_at k f' a ≡ from_angle_of (view.start ⊕ (sample_at k f₀ w₀ a).angle)) (sym q) there)
              (λ q. put.dir.others j (omega arith) q ∙ t.dirs j (below_it j l q))
              (eq_or_ne j i);
          ties = λ j l.
              ⊎_elim
              (λ q. subst (λ (a : ℕ). tie_at k w' a ≡ tie_by view (index_in k f₀ w₀ x) (sample_at k f₀ w₀ a).angle) (sym q) tied)
              (λ q. put.tie.others j (omega arith) q ∙ t.ties j (below_it j l q))
              (eq_or_ne j i);
          rest = λ j l m. put.hit.others j m (λ q. omega arith) ∙ t.rest j (omega arith) m;
          floats = only_trans t.floats put.floats;
          words = only_trans t.words put.words;
        }
      where
        below_it : (j : ℕ) → j < i + 1 → (j ≡ i → ⊥) → j < i
        below_it j l q = ⊎_elim (λ m. m) (λ m. absurd (q (omega arith))) (lt_or_le j i)

    pub answered_all : n ≤ i → Casts k view x n f₀ w₀ f w
    answered_all h = record {
      list = listed_ext (sample_at k f w) (λ j. cast_ray view (index_in k f₀ w₀ x) (sample_at k f₀ w₀ j)) n (λ j l. t.done j (omega arith))
          ∙ sym (map_listed (cast_ray view (index_in k f₀ w₀ x)) (sample_at k f₀ w₀) n);
      dirs = λ j l. t.dirs j (omega arith) ∙ ap (λ (q : Sample). from_angle_of (view.start ⊕ q.angle)) (sym (t.done j (omega arith)));
      ties = λ j l z.
          subst (λ (q : Sample). Lone view (index_in k f₀ w₀ x) q) (sym (t.done j (omega arith)))
          (λ u e g. sym (ap (λ (q : (Option RayHit)). tie_of q (tied_on view (index_in k f₀ w₀ x) (sample_at k f₀ w₀ j).angle)) g) ∙ sym (t.ties j (omega arith)) ∙ z);
      floats = t.floats;
      words = t.words;
    }

-- The cast as a whole: no bucket, and the walk of one. Assumes nothing.
use Rattle.std.proofs.Common.{◌≡◌, ℕ, zero, suc, ◌+◌, ◌-◌, ◌<◌, ◌≤◌, List, [], ◌∷◌, map, length, get_or, take, drop, sym, refl, ap, ◌∙◌, ⊎_elim, arith, length-take, None, Some}
use lib.ListN.{length-map}
use lib.Ieee.{Float}
use Rattle.lists.specs.Parts.{part}
use Rattle.lists.proofs.Cases.{by_test}
use Rattle.lists.proofs.Parts.{part_first, part_part}
use Rattle.lists.proofs.Joined.{get_d_listed}
use Rattle.num.specs.Ops.{zero_f}
use Rattle.num.specs.Num.{max_of}
use Rattle.geom.specs.Constants.{nano}
use Rattle.geom.specs.declared.Vec2.{Vec2}
use Rattle.room.specs.declared.Rooms.{Rooms}
use Rattle.room.specs.declared.LocalEdge.{LocalEdge}
use Rattle.room.specs.Layout.{starts_w, refs_w}
use Rattle.room.specs.Records.{edge_at}
use Rattle.index.specs.declared.AngularIndex.{AngularIndex}
use Rattle.index.specs.declared.Best.{Best}
use Rattle.index.specs.Spans.{bucket_of}
use Rattle.index.specs.Casting.{none_yet, cast_by, stop_of, meet_of, walk_of, tested_of, turned_of, bucket_at, cast_within, is_tied, tested_in}
use Rattle.index.specs.Stands.{refs_at, index_in, WalkedAt}
use Rattle.site.specs.Hits.{hit_at}

pub cast_hit : (b : Best) (edge : ℕ) → b.edge ≡ Some edge → hit_at b.t edge ≡ cast_by b
cast_hit b edge e = rw e

pub cast_miss : (b : Best) → b.edge ≡ None → None ≡ cast_by b
cast_miss b e = rw e

bucket_below : (x : AngularIndex) (a : Float) → 0 < x.buckets → bucket_of x a < x.buckets
unfolding bucket_of
bucket_below x a h = omega arith

-- the edges tested are a front part
tested_front : (slack : Float) (o dir : Vec2) (mode : ℕ) (b : Best) (l : List LocalEdge) → take (length (tested_of slack o dir mode b l)) l ≡ tested_of slack o dir mode b l
unfolding tested_of
tested_front slack o dir mode b [] = refl
tested_front slack o dir mode b (e ∷ l) =
    ⊎_elim (λ q. rw q) (λ q. rw q (ap (λ (r : List LocalEdge). e ∷ r) (tested_front slack o dir mode (meet_of slack o dir mode e b) l))) (by_test (stop_of mode b.t e.near))

tested_few : (slack : Float) (o dir : Vec2) (mode : ℕ) (b : Best) (l : List LocalEdge) → length (tested_of slack o dir mode b l) ≤ length l
unfolding tested_of
tested_few slack o dir mode b [] = omega arith
tested_few slack o dir mode b (e ∷ l) =
    ⊎_elim (λ q. rw q (omega arith)) (λ q. rw q (omega (arith, tested_few slack o dir mode (meet_of slack o dir mode e b) l))) (by_test (stop_of mode b.t e.near))

-- a shorter part of the same list
part_less : {A : Type 0} (a e n : ℕ) (l : List A) → n ≤ length (part a e l) → part a (a + n) l ≡ take n (part a e l)
part_less a e n l h =
    let s : n ≤ e - a = omega (arith, length-take (e - a) (drop a l)) in
    let z : a + 0 ≡ a = omega arith in
    sym (sym (part_first n (part a e l)) ∙ part_part a e 0 n l s ∙ ap (λ (i : ℕ). part i (a + n) l) z)

take_map : {A B : Type 0} (f : A → B) (n : ℕ) (l : List A) → map f (take n l) ≡ take n (map f l)
take_map f zero l = refl
take_map f (suc n) [] = refl
take_map f (suc n) (x ∷ l) = ap (λ (r : List _). f x ∷ r) (take_map f n l)

module _ (slack : Float) (k : Rooms) (x : AngularIndex) (floats : List Float) (words : List ℕ) (o : Vec2) (angle : Float) (dir : Vec2) (max : Float) where
  abbrev E : ℕ → LocalEdge
  E = edge_at k floats words

  no_bucket : x.buckets ≡ 0 → bucket_at (index_in k floats words x) angle ≡ []
  unfolding bucket_at index_in
  no_bucket e = rw e

  pub walk_none : x.buckets ≡ 0 → WalkedAt slack k x floats words o angle dir max (none_yet max) 0 0
  unfolding walk_of tested_of
  walk_none e = record { best_is = rw (no_bucket e); tested_are = rw (no_bucket e) }

  -- the edges of the bucket, read from the room
  bucket_is : 0 < x.buckets → bucket_at (index_in k floats words x) angle ≡ map (edge_at k floats words) (refs_at k words (bucket_of x (max_of (turned_of angle) zero_f)))
  unfolding bucket_at index_in
  bucket_is h =
      get_d_listed (λ b. map (edge_at k floats words) (refs_at k words b)) x.buckets (bucket_of x (max_of (turned_of angle) zero_f)) []
      (bucket_below x (max_of (turned_of angle) zero_f) h)

  pub walk_some : 0 < x.buckets → {t m : Float} {s r b p q f from g to : ℕ} → t ≡ turned_of angle → m ≡ max_of t zero_f → b ≡ bucket_of x m → s ≡ starts_w k → r ≡ refs_w k
      → p ≡ get_or words (s + b) 0 → f ≡ p → q ≡ get_or words (s + b + 1) 0 → g ≡ q → {w : Best} → w ≡ walk_of slack o dir x.mode (none_yet max) (map (edge_at k floats words) (part (r + f) (r + g) words))
      → (from ≡ r + f) × (to ≡ r + f + length (tested_of slack o dir x.mode (none_yet max) (map (edge_at k floats words) (part (r + f) (r + g) words))))
      → WalkedAt slack k x floats words o angle dir max w from to
  walk_some h {t} {m} {s} {r} {b} {p} {q} {f} {from} {g} {to} ht hm hb hs hr hp hf hq hg {w} hw (h₁, h₂) =
      let c : b ≡ bucket_of x (max_of (turned_of angle) zero_f) = cc in
      let e : s + b ≡ starts_w k + bucket_of x (max_of (turned_of angle) zero_f) = omega arith in
      let e' : s + b + 1 ≡ starts_w k + suc (bucket_of x (max_of (turned_of angle) zero_f)) = omega arith in
      let all : map E (part (r + f) (r + g) words) ≡ bucket_at (index_in k floats words x) angle = rw (hr, hf, hp, hg, hq, e', e) (sym (bucket_is h)) in
      let n = length (tested_of slack o dir x.mode (none_yet max) (map E (part (r + f) (r + g) words))) in
      let few : n ≤ length (part (r + f) (r + g) words) = omega (arith, tested_few slack o dir x.mode (none_yet max) (map E (part (r + f) (r + g) words)), length-map (part (r + f) (r + g) words) E) in
      record {
        best_is = hw ∙ ap (walk_of slack o dir x.mode (none_yet max)) all;
        tested_are =
            ap (λ (i : ℕ). map E (part i to words)) h₁
            ∙ ap (λ (i : ℕ). map E (part (r + f) i words)) h₂
            ∙ ap (map E) (part_less (r + f) (r + g) n words few)
            ∙ take_map E n (part (r + f) (r + g) words)
            ∙ tested_front slack o dir x.mode (none_yet max) (map E (part (r + f) (r + g) words))
            ∙ ap (tested_of slack o dir x.mode (none_yet max)) all;
      }

  -- ---- what the cast and the tested edges make of it
  module _ (w : Best) (from to : ℕ) (h : WalkedAt slack k x floats words o angle dir max w from to) where
    pub cast_is : cast_by w ≡ cast_within slack (index_in k floats words x) o angle dir max
    unfolding cast_within index_in
    cast_is = ap cast_by h.best_is

pub tested_is : (k : Rooms) (x : AngularIndex) (floats : List Float) (words : List ℕ) (o : Vec2) (angle : Float) (dir : Vec2) (max : Float) {w : Best} {from to : ℕ}
    → WalkedAt nano k x floats words o angle dir max w from to → map (edge_at k floats words) (part from to words) ≡ tested_in (index_in k floats words x) o angle dir max
unfolding tested_in index_in
tested_is k x floats words o angle dir max h = h.tested_are

pub tie_is : (k : Rooms) (x : AngularIndex) (floats : List Float) (words : List ℕ) (o : Vec2) (angle : Float) (dir : Vec2) (max : Float) {w : Best} {from to : ℕ}
    → WalkedAt nano k x floats words o angle dir max w from to → w.tied ≡ is_tied (index_in k floats words x) o angle dir max
unfolding is_tied index_in
tie_is k x floats words o angle dir max h = ap (λ (b : Best). b.tied) h.best_is

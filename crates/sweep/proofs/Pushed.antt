-- A point pushed into a lent list and into one that grows: both hold the same, or the lent one has become too short. Assumes nothing.
use Rattle.std.proofs.Common.{◌≡◌, ℕ, suc, ◌+◌, ◌-◌, ◌*◌, ◌<◌, ◌≤◌, Bool, true, false, cond, eqb, ltb, ◌⊎◌, List, [], ◌∷◌, ◌++◌, length, get_or, take, set, sym, refl, ap, ◌∙◌, subst, inl, inr, ⊎_elim, append_assoc, arith, length-append, length-set, length-take-le, get_or-take, take-suc-set, take_at, eq-eqb, le-leb}
use lib.Seq.{take-set-lt}
use lib.Ieee.{Float, nan}
use borrow.Author.Tests.{lt-leb}
use Rattle.num.specs.Ops.{zero_f}
use Rattle.lists.proofs.Cases.{lt_or_le}
use Rattle.geom.specs.declared.Vec2.{Vec2}
use Rattle.geom.specs.Vec.{vec}
use Rattle.site.specs.Tables.{point_at}
use Rattle.outline.specs.declared.Trace.{Trace}
use Rattle.outline.specs.declared.Place.{Place}
use Rattle.outline.specs.declared.Place.TheVariants.{Skip, Corner, Same, Add, Full}
use Rattle.outline.specs.Outline.{corner, close_of, room_of, tail_of, last_of, place_of, Out, out, put_point, act, push_of}
use Rattle.outline.proofs.Ways.{place_over, push_by, clash}
use Rattle.seen.specs.Seen.{push_all}
use Rattle.sweep.specs.Recorder.{free_push, free_all}

-- ---- the place of a point, apart from the room for one more
abbrev tail_by : Bool → Bool → Bool → Bool → Place → Place
tail_by t f a b r = cond t r (cond f r (cond a (cond b Same r) r))

abbrev place_by : Bool → Bool → Bool → Bool → Bool → Bool → Bool → Place → Place
place_by v z c t f a b r = cond v Skip (cond z (tail_by t f a b r) (cond c (cond t Corner Skip) (tail_by t f a b r)))

abbrev Keep : Place → Type 0
Keep Skip = Unit
Keep Corner = Unit
Keep Same = Unit
Keep Add = ⊥
Keep Full = ⊥

tail_or : (t f a b : Bool) → ((r : Place) → tail_by t f a b r ≡ r) ⊎ ((r : Place) → tail_by t f a b r ≡ Same)
tail_or true f a b = inl (λ r. refl)
tail_or false true a b = inl (λ r. refl)
tail_or false false false b = inl (λ r. refl)
tail_or false false true false = inl (λ r. refl)
tail_or false false true true = inr (λ r. refl)

-- it is where one more goes, or the same whatever the room
place_or : (v z c t f a b : Bool) → ((r : Place) → place_by v z c t f a b r ≡ r) ⊎ ((k : Place) × Keep k × ((r : Place) → place_by v z c t f a b r ≡ k))
place_or true z c t f a b = inr (Skip, tt, λ r. refl)
place_or false true c t f a b = ⊎_elim inl (λ h. inr (Same, tt, h)) (tail_or t f a b)
place_or false false true true f a b = inr (Corner, tt, λ r. refl)
place_or false false true false f a b = inr (Skip, tt, λ r. refl)
place_or false false false t f a b = ⊎_elim inl (λ h. inr (Same, tt, h)) (tail_or t f a b)

place_close : (v z c d t f a b : Bool) (r : Place) → (z ≡ true) ⊎ (c ≡ d) → place_by v z c t f a b r ≡ place_by v z d t f a b r
place_close v z c d t f a b r h = ⊎_elim (λ e. rw e) (λ e. rw e) h

abbrev place_in : Bool → Trace → ℕ → Place → Place
place_in c s tag r = place_by s.over (eqb s.points 0) c (eqb tag corner) (ltb s.points 2) (eqb s.last tag) (eqb s.prev tag) r

place_is : (pts : List Float) (s : Trace) (o p : Vec2) (tag : ℕ) → place_of pts s o p tag ≡ place_in (close_of o p (last_of pts s)) s tag (room_of (length pts) s.points)
unfolding place_of tail_of
place_is pts s o p tag = refl

-- ---- the numbers of n points
module _ (p : Vec2) (n : ℕ) (l : List Float) where
  take_over : take (2 * n) (put_point l (2 * n - 2) (2 * n - 1) p) ≡ put_point (take (2 * n) l) (2 * n - 2) (2 * n - 1) p
  take_over =
      ⊎_elim
      (λ h. take-set-lt (2 * n) (set l (2 * n - 2) p.x) (2 * n - 1) p.y (omega arith)
      ∙ ap (λ (q : List Float). set q (2 * n - 1) p.y) (take-set-lt (2 * n) l (2 * n - 2) p.x (omega arith)))
      (λ h. let z : n ≡ 0 = omega arith in rw z)
      (lt_or_le 0 n)

  take_add : 2 * n + 2 ≤ length l → take (2 * (n + 1)) (put_point l (2 * n) (2 * n + 1) p) ≡ take (2 * n) l ++ (p.x ∷ p.y ∷ [])
  take_add h =
      let z : 2 * (n + 1) ≡ suc (2 * n + 1) = omega arith in
      let y : 2 * n + 1 ≡ suc (2 * n) = omega arith in
      let k : 2 * n + 1 < length (set l (2 * n) p.x) = simp length-set (omega arith) in
      ap (λ (q : ℕ). take q (put_point l (2 * n) (2 * n + 1) p)) z
      ∙ take-suc-set (set l (2 * n) p.x) (2 * n + 1) p.y k
      ∙ ap (λ (q : ℕ). take q (set l (2 * n) p.x) ++ (p.y ∷ [])) y
      ∙ ap (λ (q : List Float). q ++ (p.y ∷ [])) (take-suc-set l (2 * n) p.x (omega arith))
      ∙ append_assoc (take (2 * n) l) (p.x ∷ []) (p.y ∷ [])

-- ---- a list that grows
abbrev grown : List Float → List Float
grown l = l ++ (zero_f ∷ zero_f ∷ [])

length_grown : (l : List Float) → length (grown l) ≡ length l + 2
length_grown l = length-append l (zero_f ∷ zero_f ∷ [])

pub record Grows (s : Trace) (q : Out) : Type 0 where
  pub size : length q.pts ≡ 2 * q.at.points
  pub going : q.at.over ≡ false
  pub up : s.points ≤ q.at.points
  pub owners : q.at.owners ≡ s.owners
  pub casts : q.at.refinements ≡ s.refinements

module _ (p : Vec2) (tag : ℕ) (l : List Float) (s : Trace) (hl : length l ≡ 2 * s.points + 2) (ho : s.over ≡ false) where
  short : (m : ℕ) (k : List Float) → length k ≡ length l → m ≤ s.points + 1 → length (take (2 * m) k) ≡ 2 * m
  short m k e h = length-take-le (2 * m) k (omega arith)

  two : (i j : ℕ) → length (put_point l i j p) ≡ length l
  two i j = length-set (set l i p.x) j p.y ∙ length-set l i p.x

  grows_keep : (k : Place) → Keep k → Grows s (out (take (2 * (act k p tag l s).at.points) (act k p tag l s).pts) (act k p tag l s).at)
  grows_keep Skip h = record { size = short s.points l refl (omega arith); going = ho; up = omega arith; owners = refl; casts = refl }
  grows_keep Corner h = record { size = short s.points _ (two (2 * s.points - 2) (2 * s.points - 1)) (omega arith); going = ho; up = omega arith; owners = refl; casts = refl }
  grows_keep Same h = record { size = short s.points _ (two (2 * s.points - 2) (2 * s.points - 1)) (omega arith); going = ho; up = omega arith; owners = refl; casts = refl }
  grows_keep Add h = absurd h
  grows_keep Full h = absurd h

  grows_add : Grows s (out (take (2 * (act Add p tag l s).at.points) (act Add p tag l s).pts) (act Add p tag l s).at)
  grows_add = record { size = short (s.points + 1) _ (two (2 * s.points) (2 * s.points + 1)) (omega arith); going = ho; up = omega arith; owners = refl; casts = refl }

-- what a push into it comes to, by the place
module _ (o p : Vec2) (tag : ℕ) (f : Out) (size : length f.pts ≡ 2 * f.at.points) (going : f.at.over ≡ false) where
  long : length (grown f.pts) ≡ 2 * f.at.points + 2
  long = length_grown f.pts ∙ omega arith

  abbrev close_f : Bool
  close_f = close_of o p (last_of (grown f.pts) f.at)

  push_at : (k : Place) → place_in close_f f.at tag (room_of (length (grown f.pts)) f.at.points) ≡ k
      → free_push o p tag f ≡ out (take (2 * (act k p tag (grown f.pts) f.at).at.points) (act k p tag (grown f.pts) f.at).pts) (act k p tag (grown f.pts) f.at).at
  push_at k e =
      ap (λ (q : Out). out (take (2 * q.at.points) q.pts) q.at)
      (sym (push_by (grown f.pts) f.at tag o p refl (place_is (grown f.pts) f.at o p tag ∙ e)))

  room_more : room_of (length (grown f.pts)) f.at.points ≡ Add
  unfolding room_of
  room_more = rw (le-leb (2 * f.at.points + 2) (length (grown f.pts)) (omega (arith, long)))

  pub push_grows : Grows f.at (free_push o p tag f)
  push_grows =
      ⊎_elim
      (λ e. subst (Grows f.at) (sym (push_at Add (e (room_of (length (grown f.pts)) f.at.points) ∙ room_more))) (grows_add p tag (grown f.pts) f.at long going))
      (λ w. subst (Grows f.at) (sym (push_at w.0 (w.2 (room_of (length (grown f.pts)) f.at.points)))) (grows_keep p tag (grown f.pts) f.at long going w.0 w.1))
      (place_or f.at.over (eqb f.at.points 0) close_f (eqb tag corner) (ltb f.at.points 2) (eqb f.at.last tag) (eqb f.at.prev tag))

-- ---- a lent list of l numbers beside one that grows: the same, or over, and then the other one is longer or `Z` holds
pub record Like (l : ℕ) (b f : Out) : Type 0 where
  pub at : b.at ≡ f.at
  pub pts : take (2 * f.at.points) b.pts ≡ f.pts
  pub fits : 2 * f.at.points ≤ l

pub record Pair (l : ℕ) (Z : Type 0) (b f : Out) : Type 0 where
  pub len : length b.pts ≡ l
  pub size : length f.pts ≡ 2 * f.at.points
  pub going : f.at.over ≡ false
  pub same : b.at.over ≡ false → Like l b f
  pub shut : b.at.over ≡ true → Z ⊎ (l < 2 * f.at.points)

pub pair_other : {l : ℕ} {Z W : Type 0} {b f : Out} → (Z → W) → Pair l Z b f → Pair l W b f
pair_other t h = record { len = h.len; size = h.size; going = h.going; same = h.same; shut = λ e. ⊎_elim (λ z. inl (t z)) inr (h.shut e) }

module _ (l : ℕ) (Z : Type 0) (o p : Vec2) (tag : ℕ) (b f : Out) (h : Pair l Z b f) where
  ups : Grows f.at (free_push o p tag f)
  ups = push_grows o p tag f h.size h.going

  push_shut : b.at.over ≡ true → Pair l Z (push_of o p tag b.pts b.at) (free_push o p tag f)
  push_shut e =
      subst (λ (q : Out). Pair l Z q (free_push o p tag f)) (push_by b.pts b.at tag o p (place_over b.pts b.at tag o p e) refl)
      (record {
        len = h.len;
        size = ups.size;
        going = ups.going;
        same = λ z. absurd (clash e z);
        shut = λ _. ⊎_elim inl (λ m. inr (omega (arith, ups.up))) (h.shut e);
      })

  module _ (e : b.at.over ≡ false) where
    k : Like l b f
    k = h.same e

    front : take (2 * f.at.points) (grown f.pts) ≡ f.pts
    front = take_at f.pts (zero_f ∷ zero_f ∷ []) (2 * f.at.points) h.size

    base : take (2 * f.at.points) b.pts ≡ take (2 * f.at.points) (grown f.pts)
    base = k.pts ∙ sym front

    digit : (i : ℕ) → i < 2 * f.at.points → get_or b.pts i nan ≡ get_or (grown f.pts) i nan
    digit i m =
        sym (get_or-take (2 * f.at.points) b.pts i nan m)
        ∙ ap (λ (q : List Float). get_or q i nan) base
        ∙ get_or-take (2 * f.at.points) (grown f.pts) i nan m

    last_same : 0 < f.at.points → last_of b.pts f.at ≡ last_of (grown f.pts) f.at
    last_same m =
        ap (λ (x : Float). vec x (get_or b.pts (2 * f.at.points - 1) nan)) (digit (2 * f.at.points - 2) (omega arith))
        ∙ ap (vec (get_or (grown f.pts) (2 * f.at.points - 2) nan)) (digit (2 * f.at.points - 1) (omega arith))

    close_same : (eqb f.at.points 0 ≡ true) ⊎ (close_of o p (last_of b.pts f.at) ≡ close_of o p (last_of (grown f.pts) f.at))
    close_same =
        ⊎_elim
        (λ m. inr (ap (close_of o p) (last_same m)))
        (λ m. let z : f.at.points ≡ 0 = omega arith in inl (eq-eqb f.at.points 0 z))
        (lt_or_le 0 f.at.points)

    abbrev close : Bool
    close = close_of o p (last_of (grown f.pts) f.at)

    bounded_at : (w : Place) → place_in close f.at tag (room_of (length b.pts) f.at.points) ≡ w → act w p tag b.pts f.at ≡ push_of o p tag b.pts b.at
    bounded_at w m =
        push_by b.pts f.at tag o p refl
        (place_is b.pts f.at o p tag
        ∙ place_close f.at.over (eqb f.at.points 0) (close_of o p (last_of b.pts f.at)) close (eqb tag corner) (ltb f.at.points 2) (eqb f.at.last tag) (eqb f.at.prev tag)
        (room_of (length b.pts) f.at.points) close_same
        ∙ m)
        ∙ ap (push_of o p tag b.pts) (sym k.at)

    abbrev free_as : Place → Out
    free_as w = out (take (2 * (act w p tag (grown f.pts) f.at).at.points) (act w p tag (grown f.pts) f.at).pts) (act w p tag (grown f.pts) f.at).at

    fresh : length (grown f.pts) ≡ 2 * f.at.points + 2
    fresh = long o p tag f h.size h.going

    same_put : (i j : ℕ) → length (put_point b.pts i j p) ≡ l
    same_put i j = length-set (set b.pts i p.x) j p.y ∙ length-set b.pts i p.x ∙ h.len

    over_base : take (2 * f.at.points) (put_point b.pts (2 * f.at.points - 2) (2 * f.at.points - 1) p)
        ≡ take (2 * f.at.points) (put_point (grown f.pts) (2 * f.at.points - 2) (2 * f.at.points - 1) p)
    over_base =
        take_over p f.at.points b.pts
        ∙ ap (λ (q : List Float). put_point q (2 * f.at.points - 2) (2 * f.at.points - 1) p) base
        ∙ sym (take_over p f.at.points (grown f.pts))

    keep : (w : Place) → Keep w → Pair l Z (act w p tag b.pts f.at) (free_as w)
    keep Skip m =
        let g = grows_keep p tag (grown f.pts) f.at fresh h.going Skip tt in
        record { len = h.len; size = g.size; going = g.going; same = λ _. record { at = refl; pts = base; fits = k.fits }; shut = λ z. absurd (clash z h.going) }
    keep Corner m =
        let g = grows_keep p tag (grown f.pts) f.at fresh h.going Corner tt in
        record {
          len = same_put (2 * f.at.points - 2) (2 * f.at.points - 1);
          size = g.size;
          going = g.going;
          same = λ _. record { at = refl; pts = over_base; fits = k.fits };
          shut = λ z. absurd (clash z h.going);
        }
    keep Same m =
        let g = grows_keep p tag (grown f.pts) f.at fresh h.going Same tt in
        record {
          len = same_put (2 * f.at.points - 2) (2 * f.at.points - 1);
          size = g.size;
          going = g.going;
          same = λ _. record { at = refl; pts = over_base; fits = k.fits };
          shut = λ z. absurd (clash z h.going);
        }
    keep Add m = absurd m
    keep Full m = absurd m

    add_more : 2 * f.at.points + 2 ≤ l → Pair l Z (act Add p tag b.pts f.at) (free_as Add)
    add_more m =
        let g = grows_add p tag (grown f.pts) f.at fresh h.going in
        record {
          len = same_put (2 * f.at.points) (2 * f.at.points + 1);
          size = g.size;
          going = g.going;
          same = λ _. record {
            at = refl;
            pts =
                take_add p f.at.points b.pts (omega (arith, h.len))
                ∙ ap (λ (q : List Float). q ++ (p.x ∷ p.y ∷ [])) base
                ∙ sym (take_add p f.at.points (grown f.pts) (omega (arith, fresh)));
            fits = omega arith;
          };
          shut = λ z. absurd (clash z h.going);
        }

    add_full : l < 2 * f.at.points + 2 → Pair l Z (act Full p tag b.pts f.at) (free_as Add)
    add_full m =
        let g = grows_add p tag (grown f.pts) f.at fresh h.going in
        record { len = h.len; size = g.size; going = g.going; same = λ z. absurd (clash refl z); shut = λ _. inr (omega arith) }

    room_add : 2 * f.at.points + 2 ≤ l → room_of (length b.pts) f.at.points ≡ Add
    unfolding room_of
    room_add m = rw (le-leb (2 * f.at.points + 2) (length b.pts) (omega (arith, h.len)))

    room_full : l < 2 * f.at.points + 2 → room_of (length b.pts) f.at.points ≡ Full
    unfolding room_of
    room_full m = rw (lt-leb (2 * f.at.points + 2) (length b.pts) (omega (arith, h.len)))

    joined : (w x : Place) → act w p tag b.pts f.at ≡ push_of o p tag b.pts b.at → free_push o p tag f ≡ free_as x → Pair l Z (act w p tag b.pts f.at) (free_as x)
        → Pair l Z (push_of o p tag b.pts b.at) (free_push o p tag f)
    joined w x y z q =
        subst (λ (u : Out). Pair l Z u (free_push o p tag f)) y (subst (Pair l Z (act w p tag b.pts f.at)) (sym z) q)

    push_open : Pair l Z (push_of o p tag b.pts b.at) (free_push o p tag f)
    push_open =
        ⊎_elim
        (λ m. ⊎_elim
        (λ lo. joined Full Add (bounded_at Full (m (room_of (length b.pts) f.at.points) ∙ room_full lo)) (push_at o p tag f h.size h.going Add (m (room_of (length (grown f.pts)) f.at.points) ∙ room_more o p tag f h.size h.going)) (add_full lo))
        (λ hi. joined Add Add (bounded_at Add (m (room_of (length b.pts) f.at.points) ∙ room_add hi)) (push_at o p tag f h.size h.going Add (m (room_of (length (grown f.pts)) f.at.points) ∙ room_more o p tag f h.size h.going)) (add_more hi))
        (lt_or_le l (2 * f.at.points + 2)))
        (λ w. joined w.0 w.0 (bounded_at w.0 (w.2 (room_of (length b.pts) f.at.points))) (push_at o p tag f h.size h.going w.0 (w.2 (room_of (length (grown f.pts)) f.at.points))) (keep w.0 w.1))
        (place_or f.at.over (eqb f.at.points 0) close (eqb tag corner) (ltb f.at.points 2) (eqb f.at.last tag) (eqb f.at.prev tag))

  pub push_pair : Pair l Z (push_of o p tag b.pts b.at) (free_push o p tag f)
  push_pair = by b.at.over refl
    where
      by : (t : Bool) → b.at.over ≡ t → Pair l Z (push_of o p tag b.pts b.at) (free_push o p tag f)
      by true e = push_shut e
      by false e = push_open e

-- ---- several points
module _ (l : ℕ) (Z : Type 0) (o : Vec2) (points : List Float) where
  pub all_pair : (cs : List ℕ) (b f : Out) → Pair l Z b f → Pair l Z (push_all o points cs b) (free_all o points cs f)
  unfolding push_all
  all_pair [] b f h = h
  all_pair (c ∷ cs) b f h =
      all_pair cs (push_of o (point_at points c) corner b.pts b.at) (free_push o (point_at points c) corner f) (push_pair l Z o (point_at points c) corner b f h)

pub all_grows : (o : Vec2) (points : List Float) (cs : List ℕ) (f : Out) → length f.pts ≡ 2 * f.at.points → f.at.over ≡ false → Grows f.at (free_all o points cs f)
all_grows o points [] f size going = record { size = size; going = going; up = omega arith; owners = refl; casts = refl }
all_grows o points (c ∷ cs) f size going =
    let g = push_grows o (point_at points c) corner f size going in
    let n = all_grows o points cs (free_push o (point_at points c) corner f) g.size g.going in
    record { size = n.size; going = n.going; up = omega (arith, g.up, n.up); owners = n.owners ∙ g.owners; casts = n.casts ∙ g.casts }

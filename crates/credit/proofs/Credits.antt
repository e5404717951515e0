-- THE CREDITS OF A CAST. In mode 0 the edge that it hit alone (`credits_rust`). A cast that was not tied has no further ones, in either mode (`further_none`). In the
-- other mode, given the edge answered: that is one of them (`credits_answer`); each of them is that edge or a tied one (`credits_tied`); no owner has two
-- (`credits_once`); and every owner of a tied edge, of the 4,096 that a sound site may have, has one (`credits_every`). Below: each way through `further` and
-- `credit`, over plain values. Assumes nothing.
use Rattle.std.proofs.Common.{None, Option, Some}
use mathlib.Core.Path.{◌≡◌, refl, sym, ap, ◌∙◌, subst}
use mathlib.Core.Logic.{◌⊎◌, inl, inr, ⊎_elim}
use mathlib.Core.Bool.{Bool, true, false, cond}
use mathlib.Core.List.{List, [], ◌∷◌, ◌++◌, map, map-append}
use Prim.Native.Nat.{ℕ, ◌<◌}
use native.Mathlib.Omega.{arith}
use lib.Dec.{eqb}
use lib.ListN.{length, get_or, set, length-set, get_or-replicate, get_or-eq_default}
use lib.Seq.{get_or-set_same, get_or-set_other}
use lib.Ieee.{Float}
use borrow.Author.Tests.{eq-eqb, ne_eqb, eqb-true, eqb-false}
use Rattle.lists.specs.Members.{In, All, NoDup}
use Rattle.lists.specs.Parts.{part}
use Rattle.lists.proofs.Cases.{lt_or_le, eq_or_ne}
use Rattle.lists.proofs.Members.{in_left, in_right, in_either, in_map, from_map}
use Rattle.geom.specs.Constants.{nano}
use Rattle.geom.specs.declared.Vec2.{Vec2}
use Rattle.site.specs.Tables.{owner_at}
use Rattle.room.specs.declared.Rooms.{Rooms}
use Rattle.room.specs.declared.LocalEdge.{LocalEdge}
use Rattle.room.specs.Records.{edge_at}
use Rattle.index.specs.declared.AngularIndex.{AngularIndex}
use Rattle.index.specs.declared.Best.{Best}
use Rattle.index.specs.Angular.{Index}
use Rattle.index.specs.Casting.{cast_by, cast_of, is_tied, tested_in, tied_of}
use Rattle.index.specs.Stands.{index_in, WalkedAt}
use Rattle.index.proofs.Casts.{cast_hit, cast_miss, cast_is, tested_is, tie_is}
use Rattle.index.proofs.Lowest.{alone}
use Rattle.outline.specs.declared.Trace.{Trace}
use Rattle.outline.specs.Outline.{Own, owned, own_of, Room}
use Rattle.credit.specs.Credit.{firsts_of, no_marks, tied_numbers, further_of, credits_of, own_all, Raised, Credited}
use Rattle.credit.proofs.Ways.{all_raised, all_credited, all_joined}
use Rattle.site.specs.Hits.{hit_at}
use Rattle.site.specs.declared.RayHit.{RayHit}

-- ---- marks
marked_one : (l : List ℕ) (i : ℕ) → get_or (set l i 1) i 1 ≡ 1
marked_one l i = ⊎_elim (λ h. get_or-set_same l i 1 1 h) (λ h. get_or-eq_default (set l i 1) 1 (omega (arith, length-set l i 1))) (lt_or_le i (length l))

-- ---- those of the list that have an entry
module _ (owners : List ℕ) where
  abbrev free : List ℕ → ℕ → Bool
  free marks e = eqb (get_or marks (owner_at owners e) 1) 0

  firsts_none : (marks : List ℕ) (o : ℕ) → get_or marks o 1 ≡ 1 → (l : List ℕ) → All (λ e. owner_at owners e ≡ o) l → firsts_of owners marks l ≡ []
  firsts_none marks o h [] a = refl
  firsts_none marks o h (e ∷ l) a =
      let z : free marks e ≡ false = ne_eqb (get_or marks (owner_at owners e) 1) 0 (λ q. let w : get_or marks (owner_at owners e) 1 ≡ 1 = ap (λ (i : ℕ). get_or marks i 1) a.0 ∙ h in omega arith) in
      rw z (firsts_none marks o h l a.1)

  -- each of them is in the list
  firsts_in : (marks l : List ℕ) (e : ℕ) → In e (firsts_of owners marks l) → In e l
  firsts_in marks [] e i = absurd i
  firsts_in marks (x ∷ l) e i = by (free marks x) (λ j. firsts_in (set marks (owner_at owners x) 1) l e j) (λ j. firsts_in marks l e j) i
    where
      by : (b : Bool) → (In e (firsts_of owners (set marks (owner_at owners x) 1) l) → In e l) → (In e (firsts_of owners marks l) → In e l)
          → In e (cond b (x ∷ firsts_of owners (set marks (owner_at owners x) 1) l) (firsts_of owners marks l)) → (e ≡ x) ⊎ In e l
      by true f g j = ⊎_elim inl (λ k. inr (f k)) j
      by false f g j = inr (g j)

  -- none of them has a marked owner
  firsts_free : (marks l : List ℕ) (o : ℕ) → In o (map (owner_at owners) (firsts_of owners marks l)) → get_or marks o 1 ≡ 0
  firsts_free marks [] o i = absurd i
  firsts_free marks (x ∷ l) o i = by (free marks x) refl (λ j. firsts_free (set marks (owner_at owners x) 1) l o j) (λ j. firsts_free marks l o j) i
    where
      unset : get_or (set marks (owner_at owners x) 1) o 1 ≡ 0 → get_or marks o 1 ≡ 0
      unset z =
          ⊎_elim
          (λ e. absurd (let w : get_or (set marks (owner_at owners x) 1) o 1 ≡ 1 = ap (λ (i : ℕ). get_or (set marks (owner_at owners x) 1) i 1) e ∙ marked_one marks (owner_at owners x) in omega arith))
          (λ n. sym (get_or-set_other marks (owner_at owners x) o 1 1 n) ∙ z) (eq_or_ne o (owner_at owners x))

      by : (b : Bool) → free marks x ≡ b → (In o (map (owner_at owners) (firsts_of owners (set marks (owner_at owners x) 1) l)) → get_or (set marks (owner_at owners x) 1) o 1 ≡ 0)
          → (In o (map (owner_at owners) (firsts_of owners marks l)) → get_or marks o 1 ≡ 0)
          → In o (map (owner_at owners) (cond b (x ∷ firsts_of owners (set marks (owner_at owners x) 1) l) (firsts_of owners marks l))) → get_or marks o 1 ≡ 0
      by true q f g j = ⊎_elim (λ e. ap (λ (i : ℕ). get_or marks i 1) e ∙ eqb-true (get_or marks (owner_at owners x) 1) 0 q) (λ k. unset (f k)) j
      by false q f g j = g j

  -- no owner has two
  firsts_once : (marks l : List ℕ) → NoDup (map (owner_at owners) (firsts_of owners marks l))
  firsts_once marks [] = tt
  firsts_once marks (x ∷ l) = by (free marks x) (firsts_once (set marks (owner_at owners x) 1) l) (firsts_once marks l)
    where
      by : (b : Bool) → NoDup (map (owner_at owners) (firsts_of owners (set marks (owner_at owners x) 1) l)) → NoDup (map (owner_at owners) (firsts_of owners marks l))
          → NoDup (map (owner_at owners) (cond b (x ∷ firsts_of owners (set marks (owner_at owners x) 1) l) (firsts_of owners marks l)))
      by true f g =
          (λ i. let z = firsts_free (set marks (owner_at owners x) 1) l (owner_at owners x) i in let w = marked_one marks (owner_at owners x) in omega arith, f)
      by false f g = g

  -- every owner of the list that has no mark has one
  firsts_every : (marks l : List ℕ) (e : ℕ) → In e l → get_or marks (owner_at owners e) 1 ≡ 0 → In (owner_at owners e) (map (owner_at owners) (firsts_of owners marks l))
  firsts_every marks [] e i z = absurd i
  firsts_every marks (x ∷ l) e i z =
      by (free marks x) refl (λ j y. firsts_every (set marks (owner_at owners x) 1) l e j y) (λ j. firsts_every marks l e j z) i
    where
      by : (b : Bool) → free marks x ≡ b
          → (In e l → get_or (set marks (owner_at owners x) 1) (owner_at owners e) 1 ≡ 0 → In (owner_at owners e) (map (owner_at owners) (firsts_of owners (set marks (owner_at owners x) 1) l)))
          → (In e l → In (owner_at owners e) (map (owner_at owners) (firsts_of owners marks l))) → (e ≡ x) ⊎ In e l
          → In (owner_at owners e) (map (owner_at owners) (cond b (x ∷ firsts_of owners (set marks (owner_at owners x) 1) l) (firsts_of owners marks l)))
      by true q f g j =
          ⊎_elim inl (λ n. ⊎_elim (λ w. absurd (n (ap (owner_at owners) w))) (λ k. inr (f k (get_or-set_other marks (owner_at owners x) (owner_at owners e) 1 1 n ∙ z))) j)
          (eq_or_ne (owner_at owners e) (owner_at owners x))
      by false q f g j =
          ⊎_elim (λ w. absurd (eqb-false (get_or marks (owner_at owners x) 1) 0 q (ap (λ (y : ℕ). get_or marks (owner_at owners y) 1) (sym w) ∙ z))) g j

-- one more at the end, which is not among them
once_more : (y : ℕ) (l : List ℕ) → NoDup l → (In y l → ⊥) → NoDup (l ++ (y ∷ []))
once_more y [] d n = (λ i. i, tt)
once_more y (x ∷ l) d n = (λ i. ⊎_elim d.0 (⊎_elim (λ q. n (inl (sym q))) (λ b. b)) (in_either x l (y ∷ []) i), once_more y l d.1 (λ i. n (inr i)))

-- ---- THE THEOREMS
module _ (x : Index) (owners : List ℕ) (o : Vec2) (angle : Float) (dir : Vec2) (max : Float) where
  pub further_rust : x.head.mode ≡ 0 → further_of x owners o angle dir max ≡ []
  unfolding further_of
  further_rust h = rw (eq-eqb x.head.mode 0 h)

  module _ (ties : x.head.mode ≡ 0 → ⊥) where
    pub further_miss : cast_of x o angle dir max ≡ None → further_of x owners o angle dir max ≡ []
    unfolding further_of
    further_miss h = rw (ne_eqb x.head.mode 0 ties, h)

    module _ (t : Float) (f : ℕ) (hit : cast_of x o angle dir max ≡ hit_at t f) where
      abbrev numbers : List ℕ
      numbers = tied_numbers o dir t (tested_in x o angle dir max)

      pub further_hit : further_of x owners o angle dir max ≡ firsts_of owners (set no_marks (owner_at owners f) 1) numbers
      unfolding further_of
      further_hit = rw (ne_eqb x.head.mode 0 ties, hit)

      numbers_are : numbers ≡ map (λ (y : LocalEdge). y.edge) (tied_of x o angle dir max t)
      unfolding tied_numbers tied_of
      numbers_are = refl

      -- none, where the walk met no further edge at its distance
      pub further_alone : is_tied x o angle dir max ≡ false → further_of x owners o angle dir max ≡ []
      unfolding is_tied
      further_alone z =
          further_hit
          ∙ firsts_none owners (set no_marks (owner_at owners f) 1) (owner_at owners f) (marked_one no_marks (owner_at owners f)) numbers
          (subst (All (λ n. owner_at owners n ≡ owner_at owners f)) (sym numbers_are) (each (tied_of x o angle dir max t) (alone x o angle dir max t f hit ties z)))
        where
          each : (l : List LocalEdge) → All (λ y. y.edge ≡ f) l → All (λ n. owner_at owners n ≡ owner_at owners f) (map (λ (y : LocalEdge). y.edge) l)
          each [] a = tt
          each (y ∷ l) a = (ap (owner_at owners) a.0, each l a.1)

  -- so a cast that is not tied has none, in either mode
  pub further_none : ((t : Float) (f : ℕ) → cast_of x o angle dir max ≡ hit_at t f → is_tied x o angle dir max ≡ false) → further_of x owners o angle dir max ≡ []
  further_none lone = ⊎_elim further_rust (λ n. by n (cast_of x o angle dir max) refl) (eq_or_ne x.head.mode 0)
    where
      by : (x.head.mode ≡ 0 → ⊥) → (c : (Option RayHit)) → cast_of x o angle dir max ≡ c → further_of x owners o angle dir max ≡ []
      by n (Some q) h = further_alone n q.t q.edge h (lone q.t q.edge h)
      by n None h = further_miss n h

module _ (x : Index) (owners : List ℕ) (o : Vec2) (angle : Float) (dir : Vec2) (max : Float) (e : ℕ) where
  abbrev credits : List ℕ
  credits = credits_of x owners o angle dir max e

  credits_are : credits ≡ further_of x owners o angle dir max ++ (e ∷ [])
  unfolding credits_of
  credits_are = refl

  pub credits_rust : x.head.mode ≡ 0 → credits ≡ e ∷ []
  credits_rust h = credits_are ∙ ap (λ (l : List ℕ). l ++ (e ∷ [])) (further_rust x owners o angle dir max h)

  pub credits_answer : In e credits
  credits_answer = subst (In e) (sym credits_are) (in_right e (further_of x owners o angle dir max) (e ∷ []) (inl refl))

  module _ (ties : x.head.mode ≡ 0 → ⊥) (t : Float) (hit : cast_of x o angle dir max ≡ hit_at t e) where
    abbrev others : List ℕ
    others = firsts_of owners (set no_marks (owner_at owners e) 1) (numbers x owners o angle dir max ties t e hit)

    credits_hit : credits ≡ others ++ (e ∷ [])
    credits_hit = credits_are ∙ ap (λ (l : List ℕ). l ++ (e ∷ [])) (further_hit x owners o angle dir max ties t e hit)

    pub credits_tied : (n : ℕ) → In n credits → (n ≡ e) ⊎ ((y : LocalEdge) × In y (tied_of x o angle dir max t) × (y.edge ≡ n))
    credits_tied n i =
        ⊎_elim
        (λ j. inr (from_map (λ (y : LocalEdge). y.edge) n (tied_of x o angle dir max t) (subst (In n) (numbers_are x owners o angle dir max ties t e hit) (firsts_in owners (set no_marks (owner_at owners e) 1) (numbers x owners o angle dir max ties t e hit) n j))))
        (λ j. inl (⊎_elim (λ q. q) (λ b. absurd b) j))
        (in_either n others (e ∷ []) (subst (In n) credits_hit i))

    owners_are : map (owner_at owners) credits ≡ map (owner_at owners) others ++ (owner_at owners e ∷ [])
    owners_are = ap (map (owner_at owners)) credits_hit ∙ map-append (owner_at owners) others (e ∷ [])

    pub credits_once : NoDup (map (owner_at owners) credits)
    credits_once =
        subst NoDup (sym owners_are)
        (once_more (owner_at owners e) (map (owner_at owners) others) (firsts_once owners (set no_marks (owner_at owners e) 1) (numbers x owners o angle dir max ties t e hit))
        (λ i. let z = firsts_free owners (set no_marks (owner_at owners e) 1) (numbers x owners o angle dir max ties t e hit) (owner_at owners e) i in let w = marked_one no_marks (owner_at owners e) in omega arith))

    pub credits_every : (y : LocalEdge) → In y (tied_of x o angle dir max t) → owner_at owners y.edge < 4096 → In (owner_at owners y.edge) (map (owner_at owners) credits)
    unfolding no_marks
    credits_every y i l =
        subst (In (owner_at owners y.edge)) (sym owners_are)
        (⊎_elim
        (λ q. in_right (owner_at owners y.edge) (map (owner_at owners) others) (owner_at owners e ∷ []) (inl q))
        (λ n. in_left (owner_at owners y.edge) (map (owner_at owners) others) (owner_at owners e ∷ [])
        (firsts_every owners (set no_marks (owner_at owners e) 1) (numbers x owners o angle dir max ties t e hit) y.edge
        (subst (In y.edge) (sym (numbers_are x owners o angle dir max ties t e hit)) (in_map (λ (z : LocalEdge). z.edge) y (tied_of x o angle dir max t) i))
        (get_or-set_other no_marks (owner_at owners e) (owner_at owners y.edge) 1 1 n ∙ get_or-replicate 4096 (owner_at owners y.edge) 0 1 l)))
        (eq_or_ne (owner_at owners y.edge) (owner_at owners e)))

-- ---- `further` and `credit`
-- the marks of the call's own, with that of the owner of the edge answered
pub mine_is : (owners : List ℕ) (f : ℕ) {none : List ℕ} → none ≡ no_marks → {m a p : ℕ} → m ≡ f → a ≡ owner_at owners m → p ≡ a → {mine : List ℕ} → mine ≡ set none p 1
    → mine ≡ set no_marks (owner_at owners f) 1
mine_is owners f {none} hn {m} {a} {p} hm ha hp h = h ∙ ap (λ (l : List ℕ). set l p 1) hn ∙ ap (λ (i : ℕ). set no_marks i 1) (hp ∙ ha ∙ ap (owner_at owners) hm)

module _ (k : Rooms) (x : AngularIndex) (floats : List Float) (words owners : List ℕ) (o : Vec2) (angle : Float) (dir : Vec2) (max : Float) (room : ℕ) (marks : List ℕ) (s : Trace) where
  abbrev index : Index
  index = index_in k floats words x

  abbrev more : List ℕ
  more = further_of index owners o angle dir max

  mode_is : index.head.mode ≡ x.mode
  unfolding index_in
  mode_is = refl

  -- none
  nothing : more ≡ [] → owned marks s ≡ own_all room owners more marks s
  nothing h = ap (λ (l : List ℕ). own_all room owners l marks s) (sym h)

  pub more_rust : x.mode ≡ 0 → owned marks s ≡ own_all room owners more marks s
  more_rust h = nothing (further_rust index owners o angle dir max (mode_is ∙ h))

  pub raised : Room room s → {m : List ℕ} {r : Trace} → owned m r ≡ own_all room owners more marks s → Raised room s r
  raised h w = subst (Raised room s) (sym (ap (λ (q : Own). q.at) w)) (all_raised room owners more marks s h)

  module _ (ties : x.mode ≡ 0 → ⊥) {w : Best} {from to : ℕ} (W : WalkedAt nano k x floats words o angle dir max w from to) where
    on : index.head.mode ≡ 0 → ⊥
    on z = ties (sym mode_is ∙ z)

    cast_was : cast_by w ≡ cast_of index o angle dir max
    unfolding cast_of
    cast_was = cast_is nano k x floats words o angle dir max w from to W

    pub more_miss : w.edge ≡ None → owned marks s ≡ own_all room owners more marks s
    more_miss h = nothing (further_miss index owners o angle dir max on (sym cast_was ∙ sym (cast_miss w h)))

    module _ (f : ℕ) (h : w.edge ≡ Some f) where
      hit : cast_of index o angle dir max ≡ hit_at w.t f
      hit = sym cast_was ∙ sym (cast_hit w f h)

      pub more_alone : w.tied ≡ false → owned marks s ≡ own_all room owners more marks s
      more_alone z = nothing (further_alone index owners o angle dir max on w.t f hit (sym (tie_is k x floats words o angle dir max W) ∙ z))

      pub more_tied : {mine : List ℕ} → mine ≡ set no_marks (owner_at owners f) 1
          → {r : Own} → r ≡ own_all room owners (firsts_of owners mine (tied_numbers o dir w.t (map (edge_at k floats words) (part from to words)))) marks s → r ≡ own_all room owners more marks s
      more_tied {mine} h₁ {r} h₂ =
          h₂
          ∙ ap (λ (l : List ℕ). own_all room owners (firsts_of owners l (tied_numbers o dir w.t (map (edge_at k floats words) (part from to words)))) marks s) h₁
          ∙ ap (λ (l : List LocalEdge). own_all room owners (firsts_of owners (set no_marks (owner_at owners f) 1) (tied_numbers o dir w.t l)) marks s) (tested_is k x floats words o angle dir max W)
          ∙ ap (λ (l : List ℕ). own_all room owners l marks s) (sym (further_hit index owners o angle dir max on w.t f hit))

  -- the further ones, and then the edge
  module _ (e : ℕ) where
    pub credit_both : {m : List ℕ} {q : Trace} → owned m q ≡ own_all room owners more marks s → {r : Own} → r ≡ own_of room owners e m q → r ≡ own_all room owners (credits_of index owners o angle dir max e) marks s
    credit_both {m} {q} h₁ h₂ =
        h₂
        ∙ ap (λ (y : Own). own_of room owners e y.marks y.at) h₁
        ∙ sym (all_joined room owners more (e ∷ []) marks s)
        ∙ ap (λ (l : List ℕ). own_all room owners l marks s) (sym (credits_are index owners o angle dir max e))

    some : (l : List ℕ) → (f : ℕ) × (m : List ℕ) × (l ++ (e ∷ []) ≡ f ∷ m)
    some [] = (e, [], refl)
    some (f ∷ l) = (f, l ++ (e ∷ []), refl)

    -- there is one at least
    pub credited : Room room s → {m : List ℕ} {r : Trace} → owned m r ≡ own_all room owners (credits_of index owners o angle dir max e) marks s → Credited room s r
    credited h {m} {r} w =
        let (f, l, z) = some more in
        subst (Credited room s) (sym (ap (λ (q : Own). q.at) (w ∙ ap (λ (y : List ℕ). own_all room owners y marks s) (credits_are index owners o angle dir max e ∙ z)))) (all_credited room owners f l marks s h)

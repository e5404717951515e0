-- THE LOWEST OF THE TIED: `lowest`: in a mode that is not 0 a cast that hits answers the lowest number among the edges that it tests and meets at exactly the
-- distance answered, and none that it tests is met nearer (`nearest`). `let_through`: it tests each edge of its bucket to the first that is farther by nearness.
-- `tied_hit`: in both modes the edge answered is one of the tied. `in_range`: in both it is nearer than the range. `alone`: it is the only tied one where the walk met
-- no further edge at its distance.
-- A MISS, in a mode that is not 0: no edge that it tests is met nearer than the range (`none_nearer`), and it tests each edge of its bucket to the first that is
-- farther than the range by nearness (`miss_through`). Assumes nothing.
use Rattle.std.proofs.Common.{◌≡◌, ℕ, ◌≤◌, Bool, true, false, cond, eqb, ltb, ◌⊎◌, List, [], ◌∷◌, ◌++◌, sym, refl, ap, ◌∙◌, subst, inl, inr, ⊎_elim, true≢false, le_trans, le_refl, arith, ltb-false, ltb-true, ne_eqb, None, Option, Some}
use Rattle.std.proofs.lemmas.Option.{none-some, same_Some}
use lib.Ieee.{Float, lt, le, eq}
use Rattle.lists.specs.Members.{In, All}
use Rattle.lists.proofs.Cases.{by_test}
use Rattle.lists.proofs.Members.{all_in, in_all, all_map}
use Rattle.lists.proofs.Counting.{filter_in, in_filter}
use Rattle.site.proofs.Distances.{off, eq_le, le_lt, lt_lt, lt_self, lt_eq_self}
use Rattle.geom.specs.Constants.{nano}
use Rattle.geom.specs.Segment.{ray_segment_within}
use Rattle.geom.specs.declared.Vec2.{Vec2}
use Rattle.site.specs.Meets.{met_at, met_before}
use Rattle.room.specs.declared.LocalEdge.{LocalEdge}
use Rattle.index.specs.declared.Best.{Best}
use Rattle.index.specs.Angular.{Index}
use Rattle.index.specs.Casting.{best_of, tied_best, none_yet, cast_at, cast_by, lower_in, lower_of, better_of, stop_of, meet_of, walk_of, tested_of, ties_at, bucket_at, cast_within, cast_of, tested_in, tied_of}
use Rattle.site.specs.Hits.{hit_at}
use Rattle.site.specs.declared.RayHit.{RayHit}

-- ---- from one best to a later one
-- the same distance and no higher a number, and where no further edge was met there the same number; or a smaller distance
pub record Same (b r : Best) : Type 0 where
  pub t : r.t ≡ b.t
  pub edge : (e : ℕ) → r.edge ≡ Some e → (f : ℕ) × (b.edge ≡ Some f) × (e ≤ f)
  pub alone : r.tied ≡ false → (b.tied ≡ false) × (b.edge ≡ r.edge)

abbrev Later : Best → Best → Type 0
Later b r = Same b r ⊎ (lt r.t b.t ≡ true)

later_none : (b : Best) → Later b b
later_none b = inl (record { t = refl; edge = λ e is. (e, is, le_refl e); alone = λ h. (h, refl) })

later_trans : (a b c : Best) → Later a b → Later b c → Later a c
later_trans a b c h k =
    ⊎_elim
    (λ p. ⊎_elim
    (λ q. inl (record {
      t = q.t ∙ p.t;
      edge = λ e is. let (f, at, n) = q.edge e is in let (g, was, m) = p.edge f at in (g, was, le_trans n m);
      alone = λ z. let u = q.alone z in let w = p.alone u.0 in (w.0, w.1 ∙ u.1);
    }))
    (λ q. inr (ap (λ (x : Float). lt c.t x) (sym p.t) ∙ q))
    k)
    (λ p. ⊎_elim (λ q. inr (ap (λ (x : Float). lt x a.t) q.t ∙ p)) (λ q. inr (lt_lt c.t b.t a.t q p)) k)
    h

-- the best r is no worse than an edge that is met: that is not nearer, and, once r has an edge e, of equal distances not lower; and it is e itself where no
-- further one was met at that distance
pub record Beaten (r : Best) (e edge : ℕ) : Type 0 where
  pub lowest : e ≤ edge
  pub alone : r.tied ≡ false → edge ≡ e

abbrev Beats : Best → (Option Float) → ℕ → Type 0
Beats r (Some t) edge = (lt t r.t ≡ false) × ((e : ℕ) → r.edge ≡ Some e → eq t r.t ≡ true → Beaten r e edge)
Beats r None edge = Unit {0}

beats_later : (b r : Best) (m : (Option Float)) (edge : ℕ) → Later b r → Beats b m edge → Beats r m edge
beats_later b r None edge h k = tt
beats_later b r (Some t) edge h k =
    ⊎_elim
    (λ q. (
      ap (lt t) q.t ∙ k.0,
      λ n is e.
          let (f, at, low) = q.edge n is in
          let u = k.1 f at (sym (ap (eq t) q.t) ∙ e) in
          record { lowest = le_trans low u.lowest; alone = λ z. let w = q.alone z in u.alone w.0 ∙ same_Some _ _ (sym at ∙ w.1 ∙ is) },
    ))
    (λ q. (off (lt t r.t) (λ e. true≢false (sym (lt_lt t r.t b.t e q) ∙ k.0)), λ n is e. absurd (true≢false (sym (le_lt t r.t b.t (eq_le t r.t e) q) ∙ k.0))))
    h

-- the lower of two numbers is neither's higher
lower_two : (m n : ℕ) → (cond (ltb m n) m n ≤ m) × (cond (ltb m n) m n ≤ n)
lower_two m n = by (ltb m n) refl
  where
    by : (l : Bool) → ltb m n ≡ l → (cond l m n ≤ m) × (cond l m n ≤ n)
    by true h = (le_refl m, omega (arith, ltb-true m n h))
    by false h = (ltb-false m n h, le_refl n)

-- ---- one edge and the walk, in every mode: what they make of the best is a later one
module _ (mode : ℕ) where
  lower_later : (edge : ℕ) (b : Best) → Later b (lower_of mode edge b)
  lower_later edge b = by (eqb mode 0) b.edge refl
    where
      by : (z : Bool) (c : (Option ℕ)) → b.edge ≡ c → Later b (cond z b (lower_in c edge b))
      by true c h = later_none b
      by false (Some f) h = inl (record { t = refl; edge = λ e is. (f, h, subst (λ (i : ℕ). i ≤ f) (same_Some _ _ is) (lower_two edge f).1); alone = λ z. absurd (true≢false z) })
      by false None h = later_none b

  better_later : (m : (Option Float)) (edge : ℕ) (b : Best) → Later b (better_of mode m edge b)
  better_later None edge b = later_none b
  better_later (Some t) edge b = by (lt t b.t) refl (eq t b.t)
    where
      by : (p : Bool) → lt t b.t ≡ p → (q : Bool) → Later b (cond p (best_of t edge) (cond q (lower_of mode edge b) b))
      by true hp q = inr hp
      by false hp true = lower_later edge b
      by false hp false = later_none b

  module _ (slack : Float) (o dir : Vec2) where
    abbrev met_by : LocalEdge → Option Float
    met_by e = ray_segment_within slack o dir e.a e.b

    walk_later : (b : Best) (l : List LocalEdge) → Later b (walk_of slack o dir mode b l)
    unfolding walk_of meet_of
    walk_later b [] = later_none b
    walk_later b (e ∷ l) =
        let m = better_of mode (met_by e) e.edge b in
        ⊎_elim (λ q. rw q (later_none b)) (λ q. rw q (later_trans b m (walk_of slack o dir mode m l) (better_later (met_by e) e.edge b) (walk_later m l))) (by_test (stop_of mode b.t e.near))

-- ---- where ties count: what they make of the best is no worse than each edge tested, and equal nearness does not end the walk
module _ (mode : ℕ) (ties : mode ≡ 0 → ⊥) where
  lower_beats : (t : Float) (edge : ℕ) (b : Best) → lt t b.t ≡ false → Beats (lower_of mode edge b) (Some t) edge
  lower_beats t edge b n =
      subst (λ (z : Bool). Beats (cond z b (lower_in b.edge edge b)) (Some t) edge) (sym (ne_eqb mode 0 ties)) (by b.edge refl)
    where
      by : (c : (Option ℕ)) → b.edge ≡ c → Beats (lower_in c edge b) (Some t) edge
      by (Some f) h = (n, λ e is q. record { lowest = subst (λ (i : ℕ). i ≤ edge) (same_Some _ _ is) (lower_two edge f).0; alone = λ z. absurd (true≢false z) })
      by None h = (n, λ e is q. absurd (none-some e (sym h ∙ is)))

  better_beats : (m : (Option Float)) (edge : ℕ) (b : Best) → Beats (better_of mode m edge b) m edge
  better_beats None edge b = tt
  better_beats (Some t) edge b = by (lt t b.t) refl (eq t b.t) refl
    where
      by : (p : Bool) → lt t b.t ≡ p → (q : Bool) → eq t b.t ≡ q → Beats (cond p (best_of t edge) (cond q (lower_of mode edge b) b)) (Some t) edge
      by true hp q hq = (lt_self t, λ f is e. let z : edge ≡ f = same_Some _ _ is in record { lowest = omega (arith, z); alone = λ y. z })
      by false hp true hq = lower_beats t edge b hp
      by false hp false hq = (hp, λ f is e. absurd (true≢false (sym e ∙ hq)))

  module _ (slack : Float) (o dir : Vec2) where
    walk_beats : (b : Best) (l : List LocalEdge) → All (λ e. Beats (walk_of slack o dir mode b l) (met_by mode slack o dir e) e.edge) (tested_of slack o dir mode b l)
    unfolding walk_of tested_of meet_of
    walk_beats b [] = tt
    walk_beats b (e ∷ l) =
        let m = better_of mode (met_by mode slack o dir e) e.edge b in
        ⊎_elim (λ q. rw q tt)
        (λ q. rw q (beats_later m (walk_of slack o dir mode m l) (met_by mode slack o dir e) e.edge (walk_later mode slack o dir m l) (better_beats (met_by mode slack o dir e) e.edge b), walk_beats m l))
        (by_test (stop_of mode b.t e.near))

    walk_through : (b : Best) (l k : List LocalEdge) → All (λ e. lt (walk_of slack o dir mode b (l ++ k)).t e.near ≡ false) l → All (λ e. In e (tested_of slack o dir mode b (l ++ k))) l
    unfolding walk_of tested_of meet_of
    walk_through b [] k a = tt
    walk_through b (e ∷ l) k a =
        let m = better_of mode (met_by mode slack o dir e) e.edge b in
        ⊎_elim
        (λ q. let u : lt b.t e.near ≡ false = rw q at a.0 in absurd (true≢false (sym q ∙ ap (λ (z : Bool). cond z (le b.t e.near) (lt b.t e.near)) (ne_eqb mode 0 ties) ∙ u)))
        (λ q. let w : All (λ e. lt (walk_of slack o dir mode m (l ++ k)).t e.near ≡ false) l = subst (λ (z : Bool). All (λ f. lt (cond z b (walk_of slack o dir mode m (l ++ k))).t f.near ≡ false) l) q a.1 in
        subst (λ (z : Bool). All (λ f. In f (cond z [] (e ∷ tested_of slack o dir mode m (l ++ k)))) (e ∷ l)) (sym q)
        (inl refl, all_map (λ f. In f (tested_of slack o dir mode m (l ++ k))) (λ f. In f (e ∷ tested_of slack o dir mode m (l ++ k))) (λ f i. inr i) l (walk_through m l k w)))
        (by_test (stop_of mode b.t e.near))

-- ---- the edge answered is one that was tested
-- once there is one it is the first, or a tested edge at that distance
module _ (slack : Float) (o dir : Vec2) (mode : ℕ) where
  abbrev At : Best → LocalEdge → Type 0
  At r e = (r.edge ≡ Some e.edge) × (ties_at slack o dir r.t e ≡ true)

  -- what one edge makes of the best has the same distance and number, or is met there
  abbrev Kept : Best → Best → Type 0
  Kept b r = (r.t ≡ b.t) × (r.edge ≡ b.edge)

  abbrev Made : Best → (Option Float) → ℕ → Best → Type 0
  Made b m edge r = Kept b r ⊎ ((r.edge ≡ Some edge) × (met_at r.t m ≡ true))

  lower_made : (t : Float) (edge : ℕ) (b : Best) → eq t b.t ≡ true → (c : (Option ℕ)) → b.edge ≡ c → Made b (Some t) edge (lower_in c edge b)
  lower_made t edge b hq None h = inl (refl, refl)
  lower_made t edge b hq (Some f) h = by (ltb edge f)
    where
      by : (l : Bool) → Made b (Some t) edge (tied_best b.t (cond l edge f))
      by true = inr (refl, hq)
      by false = inl (refl, sym h)

  better_made : (m : (Option Float)) (edge : ℕ) (b : Best) → Made b m edge (better_of mode m edge b)
  better_made None edge b = inl (refl, refl)
  better_made (Some t) edge b = by (lt t b.t) refl (eq t b.t) refl (eqb mode 0)
    where
      by : (p : Bool) → lt t b.t ≡ p → (q : Bool) → eq t b.t ≡ q → (z : Bool) → Made b (Some t) edge (cond p (best_of t edge) (cond q (cond z b (lower_in b.edge edge b)) b))
      by true hp q hq z = inr (refl, lt_eq_self t b.t hp)
      by false hp false hq z = inl (refl, refl)
      by false hp true hq true = inl (refl, refl)
      by false hp true hq false = lower_made t edge b hq b.edge refl

  walk_made : (b : Best) (l : List LocalEdge) → Kept b (walk_of slack o dir mode b l) ⊎ ((e : LocalEdge) × In e (tested_of slack o dir mode b l) × At (walk_of slack o dir mode b l) e)
  unfolding walk_of tested_of meet_of ties_at
  walk_made b [] = inl (refl, refl)
  walk_made b (e ∷ l) =
      ⊎_elim (λ q. rw q (inl (refl, refl))) (λ q. rw q (on (walk_made m l) (better_made (ray_segment_within slack o dir e.a e.b) e.edge b))) (by_test (stop_of mode b.t e.near))
    where
      m : Best
      m = better_of mode (ray_segment_within slack o dir e.a e.b) e.edge b

      on : Kept m (walk_of slack o dir mode m l) ⊎ ((f : LocalEdge) × In f (tested_of slack o dir mode m l) × At (walk_of slack o dir mode m l) f) → Made b (ray_segment_within slack o dir e.a e.b) e.edge m
          → Kept b (walk_of slack o dir mode m l) ⊎ ((f : LocalEdge) × In f (e ∷ tested_of slack o dir mode m l) × At (walk_of slack o dir mode m l) f)
      on (inr (f, i, a)) k = inr (f, inr i, a)
      on (inl h) (inl k) = inl (h.0 ∙ k.0, h.1 ∙ k.1)
      on (inl h) (inr k) = inr (e, inl refl, (h.1 ∙ k.0, ap (λ (t : Float). met_at t (ray_segment_within slack o dir e.a e.b)) h.0 ∙ k.1))

-- until an edge is found the distance to beat stays
module _ (mode : ℕ) where
  abbrev Still : Best → Best → Type 0
  Still b r = ((e : ℕ) × (r.edge ≡ Some e)) ⊎ ((r.t ≡ b.t) × (r.edge ≡ b.edge))

  better_unfound : (m : (Option Float)) (edge : ℕ) (b : Best) → Still b (better_of mode m edge b)
  better_unfound None edge b = inr (refl, refl)
  better_unfound (Some t) edge b = by (lt t b.t) (eq t b.t) (eqb mode 0) b.edge
    where
      by : (p q z : Bool) (c : (Option ℕ)) → Still b (cond p (best_of t edge) (cond q (cond z b (lower_in c edge b)) b))
      by true q z c = inl (edge, refl)
      by false true true c = inr (refl, refl)
      by false true false (Some f) = inl (cond (ltb edge f) edge f, refl)
      by false true false None = inr (refl, refl)
      by false false z c = inr (refl, refl)

  walk_unfound : (slack : Float) (o dir : Vec2) (b : Best) (l : List LocalEdge) → Still b (walk_of slack o dir mode b l)
  unfolding walk_of meet_of
  walk_unfound slack o dir b [] = inr (refl, refl)
  walk_unfound slack o dir b (e ∷ l) =
      let m = better_of mode (ray_segment_within slack o dir e.a e.b) e.edge b in
      ⊎_elim (λ q. rw q (inr (refl, refl)))
      (λ q. rw q (⊎_elim inl (λ w. ⊎_elim (λ y. inl (y.0, w.1 ∙ y.1)) (λ y. inr (w.0 ∙ y.0, w.1 ∙ y.1)) (better_unfound (ray_segment_within slack o dir e.a e.b) e.edge b)) (walk_unfound slack o dir m l)))
      (by_test (stop_of mode b.t e.near))

-- ---- THE THEOREMS
pub record Found (b : Best) (t : Float) (edge : ℕ) : Type 0 where
  pub t_is : b.t ≡ t
  pub edge_is : b.edge ≡ Some edge

cast_best : (b : Best) (t : Float) (edge : ℕ) → cast_by b ≡ hit_at t edge → Found b t edge
cast_best b t edge e = by b.edge refl e
  where
    by : (c : (Option ℕ)) → b.edge ≡ c → cast_at b.t c ≡ hit_at t edge → Found b t edge
    by (Some n) h q =
        let r : ◌≡◌ {A = RayHit} (record { t = b.t; edge = n }) (record { t = t; edge = edge }) = cc in
        record { t_is = ap (λ (h : RayHit). h.t) r; edge_is = h ∙ ap (λ (h : RayHit). Some h.edge) r }
    by None h q = absurd (none-some _ q)

found_hits : (b : Best) (n : ℕ) → b.edge ≡ Some n → cast_by b ≡ None → ⊥
found_hits b n q e = none-some _ (sym e ∙ ap (cast_at b.t) q)

module _ (x : Index) (o : Vec2) (angle : Float) (dir : Vec2) (max : Float) where
  abbrev best : Best
  best = walk_of nano o dir x.head.mode (none_yet max) (bucket_at x angle)

  -- where ties count, whatever distance the walk came to
  module _ (ties : x.head.mode ≡ 0 → ⊥) where
    beaten : (e : LocalEdge) → In e (tested_in x o angle dir max) → Beats best (ray_segment_within nano o dir e.a e.b) e.edge
    unfolding tested_in
    beaten e i =
        all_in (λ e. Beats best (ray_segment_within nano o dir e.a e.b) e.edge) (tested_of nano o dir x.head.mode (none_yet max) (bucket_at x angle)) e
        (walk_beats x.head.mode ties nano o dir (none_yet max) (bucket_at x angle)) i

    module _ (t : Float) (at : best.t ≡ t) where
      not_nearer : (m : (Option Float)) (n : ℕ) → Beats best m n → met_before t m ≡ false
      not_nearer (Some u) n h = ap (lt u) (sym at) ∙ h.0
      not_nearer None n h = refl

      nearest_at : All (λ e. met_before t (ray_segment_within nano o dir e.a e.b) ≡ false) (tested_in x o angle dir max)
      nearest_at =
          in_all (λ e. met_before t (ray_segment_within nano o dir e.a e.b) ≡ false) (tested_in x o angle dir max)
          (λ e i. not_nearer (ray_segment_within nano o dir e.a e.b) e.edge (beaten e i))

      through_at : (l k : List LocalEdge) → bucket_at x angle ≡ l ++ k → All (λ e. lt t e.near ≡ false) l → All (λ e. In e (tested_in x o angle dir max)) l
      unfolding tested_in
      through_at l k h a =
          subst (λ (w : List LocalEdge). All (λ e. In e (tested_of nano o dir x.head.mode (none_yet max) w)) l) (sym h)
          (walk_through x.head.mode ties nano o dir (none_yet max) l k
          (subst (λ (w : List LocalEdge). All (λ e. lt (walk_of nano o dir x.head.mode (none_yet max) w).t e.near ≡ false) l) h
          (subst (λ (u : Float). All (λ e. lt u e.near ≡ false) l) (sym at) a)))

  -- ---- a hit
  module _ (t : Float) (edge : ℕ) (hit : cast_of x o angle dir max ≡ hit_at t edge) where
    hit_is : Found best t edge
    unfolding cast_of cast_within
    hit_is = cast_best best t edge hit

    -- in both modes the edge answered is one of the tied
    pub tied_hit : (e : LocalEdge) × In e (tied_of x o angle dir max t) × (e.edge ≡ edge)
    unfolding tied_of tested_in
    tied_hit =
        ⊎_elim
        (λ q. absurd (none-some edge (sym q.1 ∙ hit_is.edge_is)))
        (λ (e, i, a). (e, in_filter (ties_at nano o dir t) e (tested_in x o angle dir max) i (ap (λ (u : Float). ties_at nano o dir u e) (sym hit_is.t_is) ∙ a.1), same_Some _ _ (sym a.0 ∙ hit_is.edge_is)))
        (walk_made nano o dir x.head.mode (none_yet max) (bucket_at x angle))

    -- in both modes the distance answered is less than the range: an edge at the range itself is a miss
    pub in_range : lt t max ≡ true
    in_range =
        ⊎_elim
        (λ q. let (f, at, _) = q.edge edge hit_is.edge_is in absurd (none-some f at))
        (λ q. ap (λ (u : Float). lt u max) (sym hit_is.t_is) ∙ q)
        (walk_later x.head.mode nano o dir (none_yet max) (bucket_at x angle))

    module _ (ties : x.head.mode ≡ 0 → ⊥) where
      -- no edge that it tests is met nearer
      pub nearest : All (λ e. met_before t (ray_segment_within nano o dir e.a e.b) ≡ false) (tested_in x o angle dir max)
      nearest = nearest_at ties t hit_is.t_is

      -- it tests each edge of its bucket to the first that is farther, by nearness, than its answer: equal nearness is let through
      pub let_through : (l k : List LocalEdge) → bucket_at x angle ≡ l ++ k → All (λ e. lt t e.near ≡ false) l → All (λ e. In e (tested_in x o angle dir max)) l
      let_through = through_at ties t hit_is.t_is

      lower_than : (m : (Option Float)) (n : ℕ) → Beats best m n → met_at t m ≡ true → edge ≤ n
      lower_than (Some u) n h k = (h.1 edge hit_is.edge_is (ap (eq u) hit_is.t_is ∙ k)).lowest
      lower_than None n h k = absurd (true≢false (sym k))

      -- its number is the lowest of the tied
      pub lowest : All (λ e. edge ≤ e.edge) (tied_of x o angle dir max t)
      unfolding tied_of ties_at
      lowest =
          in_all (λ e. edge ≤ e.edge) (tied_of x o angle dir max t)
          (λ e i. let q = filter_in (ties_at nano o dir t) e (tested_in x o angle dir max) i in lower_than (ray_segment_within nano o dir e.a e.b) e.edge (beaten ties e q.0) q.1)

      same_as : best.tied ≡ false → (m : (Option Float)) (n : ℕ) → Beats best m n → met_at t m ≡ true → n ≡ edge
      same_as z (Some u) n h k = (h.1 edge hit_is.edge_is (ap (eq u) hit_is.t_is ∙ k)).alone z
      same_as z None n h k = absurd (true≢false (sym k))

      -- it is the only one of them where the walk met no further edge at its distance
      pub alone : best.tied ≡ false → All (λ e. e.edge ≡ edge) (tied_of x o angle dir max t)
      unfolding tied_of ties_at
      alone z =
          in_all (λ e. e.edge ≡ edge) (tied_of x o angle dir max t)
          (λ e i. let q = filter_in (ties_at nano o dir t) e (tested_in x o angle dir max) i in same_as z (ray_segment_within nano o dir e.a e.b) e.edge (beaten ties e q.0) q.1)

  -- ---- a miss, where ties count
  module _ (miss : cast_of x o angle dir max ≡ None) (ties : x.head.mode ≡ 0 → ⊥) where
    at_range : best.t ≡ max
    unfolding cast_of cast_within
    at_range = ⊎_elim (λ q. absurd (found_hits best q.0 q.1 miss)) (λ q. q.0) (walk_unfound x.head.mode nano o dir (none_yet max) (bucket_at x angle))

    -- no edge that it tests is met nearer than the range
    pub none_nearer : All (λ e. met_before max (ray_segment_within nano o dir e.a e.b) ≡ false) (tested_in x o angle dir max)
    none_nearer = nearest_at ties max at_range

    -- and it tests each edge of its bucket to the first that is farther, by nearness, than the range
    pub miss_through : (l k : List LocalEdge) → bucket_at x angle ≡ l ++ k → All (λ e. lt max e.near ≡ false) l → All (λ e. In e (tested_in x o angle dir max)) l
    miss_through = through_at ties max at_range

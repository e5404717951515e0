-- Each way through `refine`, over plain values, and the counts. Assumes nothing.
use mathlib.Core.Path.{◌≡◌, refl, sym, ◌∙◌, ap}
use mathlib.Core.Bool.{true, false}
use mathlib.Core.List.{List}
use Prim.Native.Nat.{ℕ, zero, suc, ◌+◌, ◌-◌, ◌*◌, ◌^◌, ◌≤◌, ◌<◌}
use native.Mathlib.Omega.{arith}
use lib.Ieee.{Float}
use Rattle.geom.specs.declared.Vec2.{Vec2}
use Rattle.outline.specs.declared.Trace.{Trace}
use Rattle.outline.specs.Outline.{corner, Out, out, push_of, Pushed, Own, owned, Room}
use Rattle.credit.specs.Credit.{own_all, Credited}
use Rattle.refining.specs.declared.End.{End}
use Rattle.refining.specs.declared.Turn.{Turn}
use Rattle.refining.specs.declared.Turn.TheVariants.{Stop, Open, Hidden}
use Rattle.refining.specs.Refine.{Env, turn_of, run_at, counted_of, counting, pushing, owning, end_of, refine_of, Ready, Done}

fuel : (d : ℕ) → d ≤ 32 → 33 - d ≡ suc (33 - (d + 1))
fuel d h = omega arith

module _ (v : Env) (a b : End) (p : List Float) (m : List ℕ) (s : Trace) where
  pub ref_deep : (d : ℕ) → 32 < d → run_at p m s ≡ refine_of v (33 - d) a b (run_at p m s)
  unfolding refine_of
  ref_deep d h = let z : 33 - d ≡ 0 = omega arith in rw z

  over_by : (f : ℕ) → s.over ≡ true → run_at p m s ≡ refine_of v f a b (run_at p m s)
  unfolding refine_of
  over_by zero h = refl
  over_by (suc f) h = cc

  pub ref_over : (d : ℕ) → s.over ≡ true → run_at p m s ≡ refine_of v (33 - d) a b (run_at p m s)
  ref_over d h = over_by (33 - d) h

  module _ (f : ℕ) (ho : s.over ≡ false) {t : Turn} (ht : t ≡ turn_of v a b) where
    stop_suc : t ≡ Stop → run_at p m s ≡ refine_of v (suc f) a b (run_at p m s)
    unfolding refine_of
    stop_suc e = cc

    open_suc : {x : Vec2} → t ≡ Open x → pushing v.view.o x corner (counting (run_at p m s)) ≡ refine_of v (suc f) a b (run_at p m s)
    unfolding refine_of
    open_suc e = cc

    both_suc : {x : Vec2} {g : Float} {e : ℕ} → t ≡ Hidden x g e
        → refine_of v f (end_of g e) b (pushing v.view.o x e (refine_of v f a (end_of g e) (owning v (v.credits g e) (counting (run_at p m s))))) ≡ refine_of v (suc f) a b (run_at p m s)
    unfolding refine_of
    both_suc h = cc

-- what a push and an owner make of a run
pub pushed_run : (o x : Vec2) (tag : ℕ) (p p2 : List Float) (m : List ℕ) (s s2 : Trace) → out p2 s2 ≡ push_of o x tag p s → run_at p2 m s2 ≡ pushing o x tag (run_at p m s)
pushed_run o x tag p p2 m s s2 h = ap (λ (q : Out). run_at q.pts m q.at) h

pub owned_run : (v : Env) (l : List ℕ) (p : List Float) (m m2 : List ℕ) (s s2 : Trace) → owned m2 s2 ≡ own_all v.room v.owners l m s → run_at p m2 s2 ≡ owning v l (run_at p m s)
owned_run v l p m m2 s s2 h = ap (λ (q : Own). run_at p q.marks q.at) h

-- the same ways, by what the calls answer
module _ (v : Env) (a b : End) (p : List Float) (m : List ℕ) (s : Trace) (d : ℕ) (hd : d ≤ 32) (ho : s.over ≡ false) {t : Turn} (ht : t ≡ turn_of v a b) where
  pub ref_stop : t ≡ Stop → run_at p m s ≡ refine_of v (33 - d) a b (run_at p m s)
  ref_stop e = rw (fuel d hd) (stop_suc v a b p m s (33 - (d + 1)) ho ht e)

  module _ {cs : Trace} (hc : cs ≡ counted_of s) where
    pub ref_open : {x : Vec2} {p2 : List Float} {s2 : Trace} → t ≡ Open x → out p2 s2 ≡ push_of v.view.o x corner p cs → run_at p2 m s2 ≡ refine_of v (33 - d) a b (run_at p m s)
    ref_open {x} {p2} {s2} e h =
        let k : run_at p2 m s2 ≡ pushing v.view.o x corner (counting (run_at p m s))
        = pushed_run v.view.o x corner p p2 m cs s2 h ∙ ap (λ (q : Trace). pushing v.view.o x corner (run_at p m q)) hc in
        rw (fuel d hd) (k ∙ open_suc v a b p m s (33 - (d + 1)) ho ht e)

    pub ref_both : {x : Vec2} {g : Float} {e : ℕ} → t ≡ Hidden x g e → {m2 : List ℕ} {s2 : Trace} → owned m2 s2 ≡ own_all v.room v.owners (v.credits g e) m cs
        → {p3 p4 p5 : List Float} {m3 m5 : List ℕ} {s3 s4 s5 : Trace}
        → run_at p3 m3 s3 ≡ refine_of v (33 - (d + 1)) a (end_of g e) (run_at p m2 s2)
        → out p4 s4 ≡ push_of v.view.o x e p3 s3
        → run_at p5 m5 s5 ≡ refine_of v (33 - (d + 1)) (end_of g e) b (run_at p4 m3 s4)
        → run_at p5 m5 s5 ≡ refine_of v (33 - d) a b (run_at p m s)
    ref_both {x} {g} {e} hh {m2} {s2} h2 {p3} {p4} {p5} {m3} {m5} {s3} {s4} {s5} h3 h4 h5 =
        let f = 33 - (d + 1) in
        let l = v.credits g e in
        let e2 : run_at p m2 s2 ≡ owning v l (counting (run_at p m s)) = owned_run v l p m m2 cs s2 h2 ∙ ap (λ (q : Trace). owning v l (run_at p m q)) hc in
        let e3 : run_at p3 m3 s3 ≡ refine_of v f a (end_of g e) (owning v l (counting (run_at p m s))) = h3 ∙ ap (refine_of v f a (end_of g e)) e2 in
        let e4 : run_at p4 m3 s4 ≡ pushing v.view.o x e (run_at p3 m3 s3) = pushed_run v.view.o x e p3 p4 m3 s3 s4 h4 in
        rw (fuel d hd) (h5 ∙ ap (refine_of v f (end_of g e) b) (e4 ∙ ap (pushing v.view.o x e) e3) ∙ both_suc v a b p m s f ho ht hh)

-- ---- the counts
pub fall : (d t : ℕ) → d ≤ 32 → 33 - d ≡ t → 33 - (d + 1) < t
fall d t h e = omega arith

pub stay : {l room : ℕ} {s : Trace} → Ready l room s → Done l room s s
stay r = record { points = r.points; owners = r.owners; up = omega arith; casts = omega arith }

module _ {l room : ℕ} {s : Trace} (rd : Ready l room s) where
  pub ready_count : s.refinements + 1 < 2 ^ 64
  ready_count = omega (arith, rd.casts, rd.owners.most)

  module _ {cs : Trace} (hc : cs ≡ counted_of s) where
    c1 : cs.refinements ≡ s.refinements + 1
    c1 = ap (λ (r : Trace). r.refinements) hc

    c2 : cs.owners ≡ s.owners
    c2 = ap (λ (r : Trace). r.owners) hc

    c3 : cs.points ≡ s.points
    c3 = ap (λ (r : Trace). r.points) hc

    c4 : cs.over ≡ s.over
    c4 = ap (λ (r : Trace). r.over) hc

    pub ready_push : 2 * cs.points ≤ l
    ready_push = omega (arith, c3, rd.points)

    pub ready_own : Room room cs
    ready_own = record { most = omega (arith, c2, rd.owners.most); within = λ z. omega (arith, c2, rd.owners.within (sym c4 ∙ z)) }

    pub done_open : s.over ≡ false → {r : Trace} → Pushed l cs r → Done l room s r
    done_open ho {r} g =
        record {
          points = g.within;
          owners = record { most = omega (arith, c2, rd.owners.most, g.owners); within = λ z. omega (arith, c2, g.owners, rd.owners.within ho) };
          up = omega (arith, c2, g.owners);
          casts = omega (arith, c1, c2, g.owners, g.refinements);
        }

    module _ (ho : s.over ≡ false) {s2 : Trace} (g : Credited room cs s2) where
      g1 : s.owners + 1 ≤ s2.owners
      g1 = omega (arith, g.grew (c4 ∙ ho), c2)

      g2 : s2.refinements ≡ s.refinements + 1
      g2 = omega (arith, g.raised.refinements, c1)

      g3 : 2 * s2.points ≤ l
      g3 = omega (arith, g.raised.points, c3, rd.points)

      pub ready_left : Ready l room s2
      ready_left = record { points = g3; owners = g.raised.entries; casts = omega (arith, g1, g2, rd.casts) }

      module _ {s3 : Trace} (d3 : Done l room s2 s3) {l3 : ℕ} (e3 : l3 ≡ l) where
        pub push_right : 2 * s3.points ≤ l3
        push_right = omega (arith, d3.points)

        module _ {s4 : Trace} (q : Pushed l3 s3 s4) {l4 : ℕ} (e4 : l4 ≡ l3) where
          pub ready_right : Ready l4 room s4
          ready_right =
              record {
                points = omega (arith, q.within);
                owners = room_right;
                casts = omega (arith, g1, g2, rd.casts, d3.casts, q.owners, q.refinements);
              }
            where
              room_right : Room room s4
              room_right = record { most = omega (arith, q.owners, d3.owners.most); within = λ z. omega (arith, q.owners, d3.owners.within (q.open_before z)) }

          pub done_both : {s5 : Trace} → Done l4 room s4 s5 → Done l room s s5
          done_both d5 =
              record {
                points = omega (arith, d5.points);
                owners = d5.owners;
                up = omega (arith, g1, d3.up, q.owners, d5.up);
                casts = omega (arith, g1, g2, d3.casts, q.owners, q.refinements, d5.casts);
              }

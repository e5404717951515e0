-- REFUSAL 8 IS EXACT: the walk in lent lists is over exactly where the walk in lists that grow passes the entries; and where it is not over, both hold
-- the same counts, the same outline and the same marks. Document 01: "a work or output list would pass its stated entries at any moment of the Rust's
-- run". Assumes nothing.
use Rattle.std.proofs.Common.{◌≡◌, ℕ, ◌+◌, ◌*◌, ◌<◌, ◌≤◌, Bool, true, false, cond, ◌||◌, ltb, ◌⊎◌, List, [], ◌∷◌, length, set, sym, refl, ap, ◌∙◌, subst, inl, inr, ⊎_elim, arith, le-ltb, lt-ltb}
use lib.Ieee.{Float}
use Rattle.lists.proofs.Cases.{lt_or_le}
use Rattle.geom.specs.declared.Vec2.{Vec2}
use Rattle.site.specs.Tables.{owner_at}
use Rattle.room.specs.declared.Sample.{Sample}
use Rattle.cone.specs.declared.View.{View}
use Rattle.outline.specs.declared.Trace.{Trace}
use Rattle.outline.specs.Outline.{corner, none, trace, Out, out, Own, owned, own_of}
use Rattle.outline.proofs.Ways.{own_add, own_full, clash}
use Rattle.refining.specs.Refine.{Env, Run, run_at, counting, pushing}
use Rattle.seen.specs.Seen.{passed, push_all}
use Rattle.sweep.specs.Sweep.{Course, sweep_of, with_post, begin_of}
use Rattle.sweep.specs.Recorder.{own_one, bounded, free_all, Free, free_at, free, free_begin, as_rust, passes}
use Rattle.sweep.proofs.Sim.{any_sweep}
use Rattle.sweep.proofs.Bounded.{push_stays, all_stays, own_stays, sweep_bounded}
use Rattle.sweep.proofs.Pushed.{Grows, push_grows, Like, Pair, pair_other, push_pair, all_pair, all_grows}

-- more owners, or more corners seen at one event, than allowed
abbrev Other : ℕ → ℕ → Free → Type 0
Other room seen f = (room < f.run.at.owners) ⊎ (seen < f.most)

abbrev out_of : Run → Out
out_of s = out s.pts s.at

-- a run in lent lists beside one in lists that grow
pub record Beside (l room seen : ℕ) (b : Run) (f : Free) : Type 0 where
  pub pair : Pair l (Other room seen f) (out_of b) (out_of f.run)
  pub marks : b.at.over ≡ false → b.marks ≡ f.run.marks
  pub owners : b.at.over ≡ false → f.run.at.owners ≤ room
  pub most : b.at.over ≡ false → f.most ≤ seen

-- a run that stays where it is over was not over before
before : (b b' : Run) → (b.at.over ≡ true → b' ≡ b) → b'.at.over ≡ false → b.at.over ≡ false
before b b' h e = by b.at.over refl
  where
    by : (t : Bool) → b.at.over ≡ t → b.at.over ≡ false
    by true k = absurd (clash (ap (λ (q : Run). q.at.over) (h k) ∙ k) e)
    by false k = k

module _ (v : Env) (l seen : ℕ) where
  -- ---- a point
  push_beside : (p : Vec2) (tag : ℕ) (b : Run) (f : Free) → Beside l v.room seen b f → Beside l v.room seen ((bounded v seen).push p tag b) ((free v).push p tag f)
  push_beside p tag b f h =
      let q = push_pair l (Other v.room seen f) v.view.o p tag (out_of b) (out_of f.run) h.pair in
      let g = push_grows v.view.o p tag (out_of f.run) h.pair.size h.pair.going in
      record {
        pair = pair_other (λ z. ⊎_elim (λ m. inl (omega (arith, g.owners))) inr z) q;
        marks = λ e. h.marks (opened e);
        owners = λ e. omega (arith, g.owners, h.owners (opened e));
        most = λ e. h.most (opened e);
      }
    where
      opened : (pushing v.view.o p tag b).at.over ≡ false → b.at.over ≡ false
      opened e = before b (pushing v.view.o p tag b) (λ k. push_stays v.view.o b k p tag) e

  -- ---- an owner
  module _ (e : ℕ) (b : Run) (f : Free) (h : Beside l v.room seen b f) where
    abbrev s : Trace
    s = f.run.at

    abbrev one : Trace
    one = trace s.points s.last s.prev (s.owners + 1) s.refinements s.over

    abbrev past : Trace
    past = trace s.points s.last s.prev (s.owners + 1) s.refinements true

    abbrev marked : List ℕ
    marked = set f.run.marks (owner_at v.owners e) 1

    free_own : free_at f.run.pts marked one f.most (e ∷ f.entries) f.rays ≡ (free v).own e f
    free_own = ap (λ (q : Own). free_at f.run.pts q.marks q.at f.most (e ∷ f.entries) f.rays) (own_add (s.owners + 1) v.owners e f.run.marks s h.pair.going (omega arith))

    own_shut : b.at.over ≡ true → Beside l v.room seen b (free_at f.run.pts marked one f.most (e ∷ f.entries) f.rays)
    own_shut k =
        record {
          pair = record {
            len = h.pair.len;
            size = h.pair.size;
            going = h.pair.going;
            same = λ z. absurd (clash k z);
            shut = λ _. ⊎_elim (λ z. inl (⊎_elim (λ m. inl (omega arith)) inr z)) inr (h.pair.shut k);
          };
          marks = λ z. absurd (clash k z);
          owners = λ z. absurd (clash k z);
          most = λ z. absurd (clash k z);
        }

    module _ (k : b.at.over ≡ false) where
      like : Like l (out_of b) (out_of f.run)
      like = h.pair.same k

      own_at : (q : Own) → q ≡ own_of v.room v.owners e f.run.marks s → run_at b.pts q.marks q.at ≡ own_one v e b
      own_at q m =
          ap (λ (w : Own). run_at b.pts w.marks w.at)
          (m
          ∙ ap (λ (x : List ℕ). own_of v.room v.owners e x s) (sym (h.marks k))
          ∙ ap (own_of v.room v.owners e b.marks) (sym like.at))

      own_room : s.owners < v.room → Beside l v.room seen (run_at b.pts marked one) (free_at f.run.pts marked one f.most (e ∷ f.entries) f.rays)
      own_room m =
          record {
            pair = record {
              len = h.pair.len;
              size = h.pair.size;
              going = h.pair.going;
              same = λ _. record { at = refl; pts = like.pts; fits = like.fits };
              shut = λ z. absurd (clash z h.pair.going);
            };
            marks = λ _. refl;
            owners = λ _. omega arith;
            most = λ _. h.most k;
          }

      own_past : v.room ≤ s.owners → Beside l v.room seen (run_at b.pts f.run.marks past) (free_at f.run.pts marked one f.most (e ∷ f.entries) f.rays)
      own_past m =
          record {
            pair = record {
              len = h.pair.len;
              size = h.pair.size;
              going = h.pair.going;
              same = λ z. absurd (clash refl z);
              shut = λ _. inl (inl (omega arith));
            };
            marks = λ z. absurd (clash refl z);
            owners = λ z. absurd (clash refl z);
            most = λ z. absurd (clash refl z);
          }

      own_open : Beside l v.room seen (own_one v e b) (free_at f.run.pts marked one f.most (e ∷ f.entries) f.rays)
      own_open =
          ⊎_elim
          (λ m. subst (λ (q : Run). Beside l v.room seen q (free_at f.run.pts marked one f.most (e ∷ f.entries) f.rays)) (own_at (owned marked one) (own_add v.room v.owners e f.run.marks s h.pair.going m)) (own_room m))
          (λ m. subst (λ (q : Run). Beside l v.room seen q (free_at f.run.pts marked one f.most (e ∷ f.entries) f.rays)) (own_at (owned f.run.marks past) (own_full v.room v.owners e f.run.marks s h.pair.going m)) (own_past m))
          (lt_or_le s.owners v.room)

    own_beside : Beside l v.room seen ((bounded v seen).own e b) ((free v).own e f)
    own_beside = subst (Beside l v.room seen (own_one v e b)) free_own (by b.at.over refl)
      where
        by : (t : Bool) → b.at.over ≡ t → Beside l v.room seen (own_one v e b) (free_at f.run.pts marked one f.most (e ∷ f.entries) f.rays)
        by true k = subst (λ (q : Run). Beside l v.room seen q (free_at f.run.pts marked one f.most (e ∷ f.entries) f.rays)) (sym (own_stays v b k e)) (own_shut k)
        by false k = own_open k

  -- ---- a cast
  cast_beside : (g : Float) (b : Run) (f : Free) → Beside l v.room seen b f → Beside l v.room seen ((bounded v seen).cast g b) ((free v).cast g f)
  cast_beside g b f h = by b.at.over refl
    where
      shut : b.at.over ≡ true → Beside l v.room seen b ((free v).cast g f)
      shut k =
          record {
            pair = record { len = h.pair.len; size = h.pair.size; going = h.pair.going; same = λ z. absurd (clash k z); shut = h.pair.shut };
            marks = h.marks;
            owners = h.owners;
            most = h.most;
          }

      going_on : b.at.over ≡ false → Beside l v.room seen (counting b) ((free v).cast g f)
      going_on k =
          let like : Like l (out_of b) (out_of f.run) = h.pair.same k in
          record {
            pair = record {
              len = h.pair.len;
              size = h.pair.size;
              going = h.pair.going;
              same = λ _. record { at = ap (λ (q : Trace). trace q.points q.last q.prev q.owners (q.refinements + 1) q.over) like.at; pts = like.pts; fits = like.fits };
              shut = λ z. absurd (clash z k);
            };
            marks = h.marks;
            owners = h.owners;
            most = h.most;
          }

      by : (t : Bool) → b.at.over ≡ t → Beside l v.room seen (cond b.at.over b (counting b)) ((free v).cast g f)
      by true k = subst (λ (t : Bool). Beside l v.room seen (cond t b (counting b)) ((free v).cast g f)) (sym k) (shut k)
      by false k = subst (λ (t : Bool). Beside l v.room seen (cond t b (counting b)) ((free v).cast g f)) (sym k) (going_on k)

  -- ---- the corners seen at one event
  see_beside : (cs : List ℕ) (b : Run) (f : Free) → Beside l v.room seen b f → Beside l v.room seen ((bounded v seen).see cs b) ((free v).see cs f)
  see_beside cs b f h = ⊎_elim many few (lt_or_le seen (length cs))
    where
      g : Grows f.run.at (free_all v.view.o v.points cs (out_of f.run))
      g = all_grows v.view.o v.points cs (out_of f.run) h.pair.size h.pair.going

      many : seen < length cs → Beside l v.room seen ((bounded v seen).see cs b) ((free v).see cs f)
      many m =
          subst (λ (t : Bool). Beside l v.room seen (run_at (cond t (out b.pts (passed b.at)) (push_all v.view.o v.points cs (out_of b))).pts b.marks (cond t (out b.pts (passed b.at)) (push_all v.view.o v.points cs (out_of b))).at) ((free v).see cs f))
          (sym (lt-ltb seen (length cs) m))
          (record {
            pair = record { len = h.pair.len; size = g.size; going = g.going; same = λ z. absurd (clash refl z); shut = λ _. inl (inr (omega arith)) };
            marks = λ z. absurd (clash refl z);
            owners = λ z. absurd (clash refl z);
            most = λ z. absurd (clash refl z);
          })

      few : length cs ≤ seen → Beside l v.room seen ((bounded v seen).see cs b) ((free v).see cs f)
      few m =
          let q = all_pair l (Other v.room seen f) v.view.o v.points cs (out_of b) (out_of f.run) h.pair in
          subst (λ (t : Bool). Beside l v.room seen (run_at (cond t (out b.pts (passed b.at)) (push_all v.view.o v.points cs (out_of b))).pts b.marks (cond t (out b.pts (passed b.at)) (push_all v.view.o v.points cs (out_of b))).at) ((free v).see cs f))
          (sym (le-ltb seen (length cs) m))
          (record {
            pair = pair_other (λ z. ⊎_elim (λ n. inl (omega (arith, g.owners))) (λ n. inr (omega arith)) z) q;
            marks = λ e. h.marks (opened e);
            owners = λ e. omega (arith, g.owners, h.owners (opened e));
            most = λ e. omega (arith, h.most (opened e));
          })
        where
          opened : (push_all v.view.o v.points cs (out_of b)).at.over ≡ false → b.at.over ≡ false
          opened e =
              before b (run_at (push_all v.view.o v.points cs (out_of b)).pts b.marks (push_all v.view.o v.points cs (out_of b)).at)
              (λ k. ap (λ (q : Out). run_at q.pts b.marks q.at) (all_stays v.view.o b k v.points cs)) e

-- ---- where they begin
begin_beside : (view : View) (room seen : ℕ) (pts : List Float) (marks : List ℕ) → Beside (length pts) room seen (begin_of view pts marks) (free_begin view marks)
unfolding begin_of with_post
begin_beside view room seen pts marks = by view.full refl
  where
    start : Pair (length pts) (Other room seen (free_at [] marks none 0 [] [])) (out pts none) (out [] none)
    start =
        record {
          len = refl;
          size = refl;
          going = refl;
          same = λ _. record { at = refl; pts = refl; fits = omega arith };
          shut = λ z. absurd (clash z refl);
        }

    by : (t : Bool) → view.full ≡ t → Beside (length pts) room seen (begin_of view pts marks) (free_begin view marks)
    by true k = rw k (record { pair = start; marks = λ _. refl; owners = λ _. omega arith; most = λ _. omega arith })
    by false k =
        let q = push_pair (length pts) (Other room seen (free_at [] marks none 0 [] [])) view.o view.o corner (out pts none) (out [] none) start in
        let g = push_grows view.o view.o corner (out [] none) refl refl in
        rw k
        (record {
          pair = pair_other (λ z. ⊎_elim (λ m. inl (omega (arith, g.owners))) inr z) q;
          marks = λ _. refl;
          owners = λ _. omega (arith, g.owners);
          most = λ _. omega arith;
        })

-- ---- THE THEOREM
module _ (c : Course) (l : List Sample) (pts : List Float) (marks : List ℕ) where
  abbrev in_lent : Run
  in_lent = sweep_of c l (begin_of c.env.view pts marks)

  pub beside : Beside (length pts) c.env.room c.seen in_lent (as_rust c l marks)
  beside =
      subst (λ (b : Run). Beside (length pts) c.env.room c.seen b (as_rust c l marks)) (sym (sweep_bounded c l (begin_of c.env.view pts marks)))
      (any_sweep (bounded c.env c.seen) (free c.env) (Beside (length pts) c.env.room c.seen) (push_beside c.env (length pts) c.seen) (own_beside c.env (length pts) c.seen)
      (cast_beside c.env (length pts) c.seen) (see_beside c.env (length pts) c.seen) c l (begin_of c.env.view pts marks) (free_begin c.env.view marks)
      (begin_beside c.env.view c.env.room c.seen pts marks))

  -- over exactly where a list of the growing run is longer than its entries
  pub exact : in_lent.at.over ≡ passes (length pts) c.env.room c.seen (as_rust c l marks)
  exact = by in_lent.at.over refl
    where
      or_left : (x y : Bool) → x ≡ true → (x || y) ≡ true
      or_left x y e = rw e

      or_right : (x y : Bool) → y ≡ true → (x || y) ≡ true
      or_right true y e = refl
      or_right false y e = e

      by : (t : Bool) → in_lent.at.over ≡ t → in_lent.at.over ≡ passes (length pts) c.env.room c.seen (as_rust c l marks)
      by true k =
          let x = ltb (length pts) (2 * (as_rust c l marks).run.at.points) in
          let y = ltb c.env.room (as_rust c l marks).run.at.owners in
          let z = ltb c.seen (as_rust c l marks).most in
          k
          ∙ sym
          (⊎_elim
          (λ w. ⊎_elim
          (λ m. or_right x (y || z) (or_left y z (lt-ltb c.env.room (as_rust c l marks).run.at.owners m)))
          (λ m. or_right x (y || z) (or_right y z (lt-ltb c.seen (as_rust c l marks).most m)))
          w)
          (λ m. or_left x (y || z) (lt-ltb (length pts) (2 * (as_rust c l marks).run.at.points) m))
          (beside.pair.shut k))
      by false k =
          k
          ∙ sym
          (rw (le-ltb (length pts) (2 * (as_rust c l marks).run.at.points) (beside.pair.same k).fits, le-ltb c.env.room (as_rust c l marks).run.at.owners (beside.owners k), le-ltb c.seen (as_rust c l marks).most (beside.most k)))

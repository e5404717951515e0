-- The turns of `push_all`, and the two ways through `see_corners`. Assumes nothing.
use mathlib.Core.Path.{◌≡◌, refl, sym, ◌∙◌, ap, subst}
use mathlib.Core.List.{List, ◌∷◌}
use Rattle.std.specs.Prelude.{Some, None}
use Prim.Native.Nat.{ℕ, ◌+◌, ◌-◌, ◌*◌, ◌≤◌, ◌<◌}
use native.Mathlib.Omega.{arith}
use borrow.Author.Tests.{lt-ltb, le-ltb}
use lib.ListN.{length, get_or, drop, drop_of_length-le}
use lib.Ieee.{Float}
use Rattle.lists.specs.Parts.{part}
use Rattle.lists.proofs.Parts.{drop_here}
use Rattle.geom.specs.declared.Vec2.{Vec2}
use Rattle.site.specs.Tables.{point_at}
use Rattle.outline.specs.declared.Trace.{Trace}
use Rattle.outline.specs.Outline.{corner, Out, out, push_of, Pushed}
use Rattle.room.specs.declared.Rooms.{Rooms}
use Rattle.room.specs.Layout.{words_for}
use Rattle.seen.specs.Seen.{Scene, got_at, gather_of, seen_of, push_all, passed, see_of}
use Rattle.seen.proofs.Gathered.{Gathers, Ended, gathered}

pub pushed_none : {l : ℕ} {s : Trace} → 2 * s.points ≤ l → Pushed l s s
pushed_none h = record { within = h; owners = refl; refinements = refl; open_before = λ z. z }

pub pushed_more : {l m : ℕ} {s t u : Trace} → m ≡ l → Pushed l s t → Pushed m t u → Pushed l s u
pushed_more e p q =
    record {
      within = omega (arith, q.within);
      owners = q.owners ∙ p.owners;
      refinements = q.refinements ∙ p.refinements;
      open_before = λ z. p.open_before (q.open_before z);
    }

pub pushed_over : {l : ℕ} {s : Trace} → 2 * s.points ≤ l → Pushed l s (passed s)
pushed_over h = record { within = h; owners = refl; refinements = refl; open_before = λ z. let q : ◌≡◌ {A = ℕ} 0 1 = cc in absurd (omega arith) }

-- what holds at the loop's head
pub record Pushing (o : Vec2) (points : List Float) (seen : List ℕ) (pts₀ : List Float) (s : Trace) (pts : List Float) (t : Trace) (i : ℕ) : Type 0 where
  pub long : length pts ≡ length pts₀
  pub counts : Pushed (length pts₀) s t
  pub run : push_all o points (drop i seen) (out pts t) ≡ push_all o points seen (out pts₀ s)

module _ (o : Vec2) (points : List Float) (seen : List ℕ) (pts₀ : List Float) (s : Trace) where
  pub push_none : 2 * s.points ≤ length pts₀ → Pushing o points seen pts₀ s pts₀ s 0
  push_none h = record { long = refl; counts = pushed_none h; run = refl }

  module _ (pts : List Float) (t : Trace) (i : ℕ) (so : Pushing o points seen pts₀ s pts t i) where
    pub push_more : i < length seen → (pts' : List Float) (t' : Trace) {p : Vec2} → p ≡ point_at points (get_or seen i 0) → out pts' t' ≡ push_of o p corner pts t → length pts' ≡ length pts
        → Pushed (length pts) t t' → Pushing o points seen pts₀ s pts' t' (i + 1)
    unfolding push_all
    push_more h pts' t' hp e k q =
        let d : drop i seen ≡ get_or seen i 0 ∷ drop (i + 1) seen = drop_here seen i 0 h in
        let r : push_all o points (get_or seen i 0 ∷ drop (i + 1) seen) (out pts t) ≡ push_all o points seen (out pts₀ s)
        = ap (λ (l : List ℕ). push_all o points l (out pts t)) (sym d) ∙ so.run in
        record {
          long = k ∙ so.long;
          counts = pushed_more so.long so.counts q;
          run = ap (push_all o points (drop (i + 1) seen)) (e ∙ ap (λ (x : Vec2). push_of o x corner pts t) hp) ∙ r;
        }

    pub push_end : length seen ≤ i → out pts t ≡ push_all o points seen (out pts₀ s)
    unfolding push_all
    push_end h = ap (λ (l : List ℕ). push_all o points l (out pts t)) (sym (drop_of_length-le seen h)) ∙ so.run

-- ---- `see_corners`
module _ (w : Scene) (k : Rooms) (cs words : List ℕ) (pts : List Float) (s : Trace) where
  pub see_over : None ≡ gather_of w k.seen cs → out pts (passed s) ≡ see_of w k.seen cs (out pts s)
  unfolding see_of
  see_over e = let h : k.seen < length (seen_of w cs) = subst (Ended k.seen (seen_of w cs)) (sym e) (gathered w k.seen cs) in rw (lt-ltb k.seen (length (seen_of w cs)) h)

  pub see_all : (n : ℕ) → Some (got_at k words n) ≡ gather_of w k.seen cs → {z : ℕ} → z ≡ words_for k → {u : Out} → u ≡ push_all w.view.o w.points (part (z - n) z words) (out pts s) → u ≡ see_of w k.seen cs (out pts s)
  unfolding see_of
  see_all n e hz hu =
      let g : Gathers k.seen (seen_of w cs) (got_at k words n) = subst (Ended k.seen (seen_of w cs)) (sym e) (gathered w k.seen cs) in
      rw (le-ltb k.seen (length (seen_of w cs)) g.few)
      (hu
      ∙ ap (λ (q : ℕ). push_all w.view.o w.points (part (q - n) q words) (out pts s)) hz
      ∙ ap (λ (q : List ℕ). push_all w.view.o w.points q (out pts s)) g.list)

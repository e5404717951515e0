-- Putting a number into one block, where the starts stand in front of the references in one list. Assumes nothing.
use Rattle.std.proofs.Common.{◌≡◌, ℕ, ◌+◌, ◌-◌, ◌<◌, ◌≤◌, eqb, List, length, get_or, take, drop, set, sym, ap, ◌∙◌, subst, arith, length-drop, length-take, get_or-take, drop-set-lt}
use lib.Seq.{take-set-le, take-set-lt, drop-set-add}
use Rattle.lists.specs.Lists.{bit, cons_if}
use Rattle.lists.proofs.Counting.{length_cons_if}
use Rattle.tables.specs.Scatter.{Room, Put}
use Rattle.tables.proofs.Puts.{put_one}
use Rattle.index.specs.declared.Spans.{Spans}
use Rattle.index.specs.Spans.{covers}
use Rattle.index.specs.Filling.{PutRoom, PutBoth}

pub put_at : (id b refs : ℕ) (w : List ℕ) (n : ℕ) → b < refs → refs ≤ length w → 0 < get_or w b 0 → n ≡ get_or w b 0 - 1
    → Put (λ j. eqb j b) id (take refs w) (drop refs w) (take refs (set (set w b (get_or w b 0 - 1)) (refs + n) id)) (drop refs (set (set w b (get_or w b 0 - 1)) (refs + n) id))
put_at id b refs w n h k pos e =
    let v = get_or w b 0 - 1 in
    let at : get_or (take refs w) b 0 ≡ get_or w b 0 = get_or-take refs w b 0 h in
    let long : b < length (take refs w) = simp length-take (omega arith) in
    let front : set (take refs w) b (get_or (take refs w) b 0 - 1) ≡ take refs (set (set w b v) (refs + n) id)
    = ap (λ (q : ℕ). set (take refs w) b (q - 1)) at ∙ sym (take-set-le refs (set w b v) (refs + n) id (omega arith) ∙ take-set-lt refs w b v h) in
    let rest : set (drop refs w) (get_or (take refs w) b 0 - 1) id ≡ drop refs (set (set w b v) (refs + n) id)
    = ap (λ (q : ℕ). set (drop refs w) (q - 1) id) at ∙ ap (λ (q : ℕ). set (drop refs w) q id) (sym e)
    ∙ sym (drop-set-add refs (set w b v) n id ∙ ap (λ (q : List ℕ). set q n id) (drop-set-lt refs w b v h)) in
    subst (λ (s : List ℕ). Put (λ j. eqb j b) id (take refs w) (drop refs w) s (drop refs (set (set w b v) (refs + n) id))) front
    (subst (λ (i : List ℕ). Put (λ j. eqb j b) id (take refs w) (drop refs w) (set (take refs w) b (get_or (take refs w) b 0 - 1)) i) rest
    (put_one id b (take refs w) (drop refs w) long (omega arith)))

-- the two stretches of an edge, the second first
module _ (refs : ℕ) (s : Spans) (id : ℕ) (w : List ℕ) (room : PutRoom refs s w) where
  pub room_second : Room (covers s.second) (take refs w) (drop refs w)
  room_second b e = (omega (arith, ap bit e, room.above b), room.below b (omega (arith, ap bit e)))

  module _ (w' : List ℕ) (long : length w' ≡ length w) (p : Put (covers s.second) id (take refs w) (drop refs w) (take refs w') (drop refs w')) where
    pub room_first : Room (covers s.first) (take refs w') (drop refs w')
    room_first b e =
        let i = room.below b (omega (arith, ap bit e)) in
        (omega (arith, ap bit e, room.above b, p.down b), omega (arith, i, p.down b, length-drop refs w, length-drop refs w'))

    pub put_both : (w'' : List ℕ) → Put (covers s.first) id (take refs w') (drop refs w') (take refs w'') (drop refs w'') → PutBoth refs s id w w''
    put_both w'' q =
        record {
          down = λ b. omega (arith, p.down b, q.down b);
          held = λ h F m rest le st cond.
              q.held h (λ b. cons_if (covers s.second b) id (F b)) m rest (simp length-take (omega (arith, long, room.inside)))
              (p.held h F m rest (simp length-take (omega (arith, room.inside))) st
              (λ b e. let c = cond b (omega (arith, ap bit e)) in (c.0, omega (arith, c.1, ap bit e))))
              (λ b e. let c = cond b (omega (arith, ap bit e)) in (c.0, omega (arith, c.1, ap bit e, length_cons_if (covers s.second b) id (F b))));
        }

-- THE CORNERS KEPT ASIDE ARE THE RUST'S. `aside_is`: the Rust's list of them, sorted by event and then vertex, is the corners of each merged event,
-- one event after the other (document 01: "other corners are kept aside, by event and then vertex").
-- Assumes nothing.
use mathlib.Core.Path.{◌≡◌, refl, sym, ap, ◌∙◌}
use mathlib.Core.Bool.{Bool, true, false, cond}
use mathlib.Core.List.{List, [], ◌∷◌, ◌++◌, map, append-nil}
use Prim.Native.Nat.{ℕ, suc, ◌≤◌, ◌<◌}
use native.Mathlib.Omega.{arith}
use lib.Dec.{ltb}
use Rattle.num.specs.Order.{Weak}
use Rattle.num.proofs.Ranks.{numbers, weak_ranked}
use Rattle.lists.specs.Members.{All}
use Rattle.room.specs.declared.Event.{Event}
use Rattle.sorts.specs.Sort.{sort}
use Rattle.sorts.proofs.Runs.{sort_ranks, sort_rank}
use Rattle.sorts.proofs.Stable.{map_sort}
use Rattle.events.specs.Spots.{Spot, opened, is_near, is_aside, met, closed, gather, gathered, by_angle, spots_of}
use Rattle.events.specs.Aside.{Aside, aside_at, pushed, pushed_all, by_event, each_aside}

by_pair : Weak by_event
by_pair =
    weak_ranked (λ (a : Aside). a.event) (λ (a : Aside) (b : Aside). ltb a.vertex b.vertex)
    (λ x. numbers.not_self x.vertex) (λ x y z _ _. numbers.via x.vertex y.vertex z.vertex) (λ x y z _ _. numbers.gap x.vertex y.vertex z.vertex)

all_mapped : (P : Aside → Type 0) (i : ℕ) (l : List ℕ) → ((v : ℕ) → P (aside_at i v)) → All P (map (aside_at i) l)
all_mapped P i [] h = tt
all_mapped P i (v ∷ l) h = (h v, all_mapped P i l h)

map_more : (i : ℕ) (l : List ℕ) (v : ℕ) (r : List Aside) → map (aside_at i) (l ++ (v ∷ [])) ++ r ≡ map (aside_at i) l ++ (aside_at i v ∷ r)
map_more i [] v r = refl
map_more i (x ∷ l) v r = ap (λ (q : List Aside). aside_at i x ∷ q) (map_more i l v r)

-- what is pushed later is of later events
later : (i j : ℕ) (s : Spot) (es : List Event) → i < j → All (λ (a : Aside). i < a.event) (pushed j s es)
later i j s [] h = tt
later i j s (e ∷ es) h = by (is_near s.angle e.angle) (is_aside s.vertex e.vertex) (later i j (met s e) es h) (later i (suc j) (opened e) es (omega arith))
  where
    by : (n b : Bool) → All (λ (a : Aside). i < a.event) (pushed j (met s e) es) → All (λ (a : Aside). i < a.event) (pushed (suc j) (opened e) es)
        → All (λ (a : Aside). i < a.event) (cond n (cond b (aside_at j e.vertex ∷ pushed j (met s e) es) (pushed j (met s e) es)) (pushed (suc j) (opened e) es))
    by true true p q = (h, p)
    by true false p q = p
    by false b p q = q

-- the corners of one event
one : (i : ℕ) (l : List ℕ) → sort by_event (map (aside_at i) l) ≡ map (aside_at i) (sort ltb l)
one i l =
    sort_rank (λ (a : Aside). a.event) (λ (a : Aside) (b : Aside). ltb a.vertex b.vertex) i (map (aside_at i) l) (all_mapped (λ a. a.event ≡ i) i l (λ v. refl))
    ∙ sym (map_sort (λ (a : Aside) (b : Aside). ltb a.vertex b.vertex) (aside_at i) l)

open_is : (i : ℕ) (s : Spot) (es : List Event) → sort by_event (map (aside_at i) s.extras ++ pushed i s es) ≡ each_aside i (gather s es)
open_is i s [] =
    ap (sort by_event) (append-nil (map (aside_at i) s.extras)) ∙ one i s.extras ∙ sym (append-nil (map (aside_at i) (sort ltb s.extras)))
open_is i s (e ∷ es) = by (is_near s.angle e.angle) (is_aside s.vertex e.vertex) refl (open_is i (met s e) es) (open_is (suc i) (opened e) es)
  where
    met_is : (b : Bool) → is_aside s.vertex e.vertex ≡ b
        → map (aside_at i) s.extras ++ cond b (aside_at i e.vertex ∷ pushed i (met s e) es) (pushed i (met s e) es) ≡ map (aside_at i) (met s e).extras ++ pushed i (met s e) es
    met_is true q =
        sym (map_more i s.extras e.vertex (pushed i (met s e) es))
        ∙ ap (λ (b : Bool). map (aside_at i) (cond b (s.extras ++ (e.vertex ∷ [])) s.extras) ++ pushed i (met s e) es) (sym q)
    met_is false q = ap (λ (b : Bool). map (aside_at i) (cond b (s.extras ++ (e.vertex ∷ [])) s.extras) ++ pushed i (met s e) es) (sym q)

    by : (n b : Bool) → is_aside s.vertex e.vertex ≡ b
        → sort by_event (map (aside_at i) (met s e).extras ++ pushed i (met s e) es) ≡ each_aside i (gather (met s e) es)
        → sort by_event (pushed (suc i) (opened e) es) ≡ each_aside (suc i) (gather (opened e) es)
        → sort by_event (map (aside_at i) s.extras ++ cond n (cond b (aside_at i e.vertex ∷ pushed i (met s e) es) (pushed i (met s e) es)) (pushed (suc i) (opened e) es))
        ≡ each_aside i (cond n (gather (met s e) es) (closed s ∷ gather (opened e) es))
    by true b q near far = ap (sort by_event) (met_is b q) ∙ near
    by false b q near far =
        sort_ranks (λ (a : Aside). a.event) (λ (a : Aside) (b : Aside). ltb a.vertex b.vertex) by_pair i (map (aside_at i) s.extras) (pushed (suc i) (opened e) es)
        (all_mapped (λ a. a.event ≤ i) i s.extras (λ v. omega arith)) (later i (suc i) (opened e) es (omega arith))
        ∙ ap (λ (l : List Aside). l ++ sort by_event (pushed (suc i) (opened e) es)) (one i s.extras)
        ∙ ap (λ (l : List Aside). map (aside_at i) (sort ltb s.extras) ++ l) far

gathered_is : (es : List Event) → sort by_event (pushed_all es) ≡ each_aside 0 (gathered es)
gathered_is [] = refl
gathered_is (e ∷ es) = open_is 0 (opened e) es

pub aside_is : (es : List Event) → sort by_event (pushed_all (sort by_angle es)) ≡ each_aside 0 (spots_of es)
unfolding spots_of
aside_is es = gathered_is (sort by_angle es)

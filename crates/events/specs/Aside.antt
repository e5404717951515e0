-- The corners kept aside as the Rust has them (`visibility.rs`, `extra_corners`): one list for all events, pushed while merging, sorted by event
-- and then vertex. proofs/Aside.antt: it is the corners of each merged event, one event after the other. Definitions only.
use Rattle.std.specs.Prelude.{Bool, cond, List, [], ◌∷◌, ◌++◌, map, ℕ, suc, ltb}
use Rattle.num.proofs.Ranks.{ranked}
use Rattle.room.specs.declared.Event.{Event}
use Rattle.events.specs.Spots.{Spot, opened, is_near, is_aside, met}

-- a corner kept aside at an event
pub record Aside : Type 0 where
  pub event : ℕ
  pub vertex : ℕ

abbrev pub aside_at : ℕ → ℕ → Aside
aside_at i v = record { event = i; vertex = v }

-- what is pushed when the event i is open, as s, and es are to come
abbrev pub pushed : ℕ → Spot → List Event → List Aside
pushed i s [] = []
pushed i s (e ∷ es) =
    cond (is_near s.angle e.angle)
    (cond (is_aside s.vertex e.vertex) (aside_at i e.vertex ∷ pushed i (met s e) es) (pushed i (met s e) es))
    (pushed (suc i) (opened e) es)

abbrev pub pushed_all : List Event → List Aside
pushed_all [] = []
pushed_all (e ∷ es) = pushed 0 (opened e) es

-- by event and then vertex
abbrev pub by_event : Aside → Aside → Bool
by_event = ranked (λ (a : Aside). a.event) (λ (a : Aside) (b : Aside). ltb a.vertex b.vertex)

-- the corners of each merged event, the first being the event i
abbrev pub each_aside : ℕ → List Spot → List Aside
each_aside i [] = []
each_aside i (s ∷ ss) = map (aside_at i) s.extras ++ each_aside (suc i) ss

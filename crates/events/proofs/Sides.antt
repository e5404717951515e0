-- The sides of a sector behind the events.
-- Assumes nothing.
use mathlib.Core.Path.{◌≡◌, sym, ap, ◌∙◌}
use mathlib.Core.Bool.{Bool, true, false, ◌||◌, true≢false}
use mathlib.Core.List.{List, [], ◌∷◌, ◌++◌, append_assoc, append-nil}
use Prim.Native.Nat.{ℕ, ◌+◌, ◌≤◌, ◌<◌}
use native.Mathlib.Omega.{arith}
use lib.Dec.{ltb}
use lib.Ieee.{Float}
use lib.ListN.{length, length-append}
use borrow.Author.Tests.{lt-ltb}
use Rattle.num.specs.Ops.{zero_f}
use Rattle.lists.specs.Lists.{listed}
use Rattle.lists.specs.Parts.{Only, Stored}
use Rattle.lists.proofs.Joined.{length_listed}
use Rattle.lists.proofs.Only.{only_trans, only_wider, stored_more}
use Rattle.room.specs.declared.Rooms.{Rooms}
use Rattle.room.specs.Layout.{events_f, merged_f, samples_f, events_w, turns_w, starts_w}
use Rattle.room.specs.Records.{event_at, events_in}
use Rattle.events.specs.Spots.{side_at, sides_of, spots_of, aside_count}
use Rattle.events.specs.Held.{Merges}
use Rattle.events.specs.declared.Merging.{Merging}

-- two entries more
pub two_more : {A : Type 0} (F G H : ℕ → A) (n m : ℕ) (x y : A) → n + 2 ≤ m → Stored F G m n x → Stored G H m (n + 1) y → listed H (n + 2) ≡ listed F n ++ (x ∷ y ∷ [])
two_more F G H n m x y h p q =
    let e : n + 2 ≡ n + 1 + 1 = omega arith in
    ap (listed H) e ∙ stored_more q (omega arith) ∙ ap (λ l. l ++ (y ∷ [])) (stored_more p (omega arith)) ∙ append_assoc (listed F n) (x ∷ []) (y ∷ [])

module _ (k : Rooms) (f f1 f' : List Float) (w w1 w' : List ℕ) where
  -- a full view
  pub full_sides : (n : ℕ) (r : Merging) (full : Bool) (fov : Float) → full ≡ true → Merges k (events_in k f w n) f' w' r → Merges k (events_in k f w n ++ sides_of full fov) f' w' r
  full_sides n r full fov e m = rw (e, append-nil (events_in k f w n)) m

  pub with_sides : (n : ℕ) (r : Merging) (full : Bool) (fov : Float) → full ≡ false → events_in k f1 w1 (n + 2) ≡ events_in k f w n ++ (side_at zero_f ∷ side_at fov ∷ [])
      → Merges k (events_in k f1 w1 (n + 2)) f' w' r → Merges k (events_in k f w n ++ sides_of full fov) f' w' r
  with_sides n r full fov e q m = rw (e, ← q) m

  -- the sides have no room
  pub no_sides : (n : ℕ) (r : Merging) (full : Bool) (fov : Float) → full ≡ false → k.events < n + 2 → r.over ≡ true → r.unmerged ≡ n + 2 → Merges k (events_in k f w n ++ sides_of full fov) f' w' r
  no_sides n r full fov e h eo eu =
      let l : length (events_in k f w n ++ (side_at zero_f ∷ side_at fov ∷ [])) ≡ n + 2 = length-append (events_in k f w n) (side_at zero_f ∷ side_at fov ∷ []) ∙ omega (arith, length_listed (event_at k f w) n) in
      rw e (record {
        over_is = eo ∙ sym (ap (λ (b : Bool). b || ltb k.corners (aside_count (spots_of (events_in k f w n ++ (side_at zero_f ∷ side_at fov ∷ []))))) (lt-ltb k.events (length (events_in k f w n ++ (side_at zero_f ∷ side_at fov ∷ []))) (omega arith)));
        unmerged_is = eu ∙ sym l;
        events_are = λ q. absurd (true≢false (sym eo ∙ q));
        corners_are = λ q. absurd (true≢false (sym eo ∙ q));
        spots_are = λ q. absurd (true≢false (sym eo ∙ q));
        ends_are = λ q. absurd (true≢false (sym eo ∙ q));
      })

  -- the frame of both
  pub wider : Only (merged_f k) (samples_f k) f f' × Only (turns_w k) (starts_w k) w w' → Only (events_f k) (samples_f k) f f' × Only (events_w k) (starts_w k) w w'
  wider o = (only_wider (events_f k) (samples_f k) (omega arith) (omega arith) o.0, only_wider (events_w k) (starts_w k) (omega arith) (omega arith) o.1)

  pub both : Only (events_f k) (merged_f k) f f1 × Only (events_w k) (turns_w k) w w1 → Only (merged_f k) (samples_f k) f1 f' × Only (turns_w k) (starts_w k) w1 w'
      → Only (events_f k) (samples_f k) f f' × Only (events_w k) (starts_w k) w w'
  both a b = (
    only_trans (only_wider (events_f k) (samples_f k) (omega arith) (omega arith) a.0) (only_wider (events_f k) (samples_f k) (omega arith) (omega arith) b.0),
    only_trans (only_wider (events_w k) (starts_w k) (omega arith) (omega arith) a.1) (only_wider (events_w k) (starts_w k) (omega arith) (omega arith) b.1),
  )

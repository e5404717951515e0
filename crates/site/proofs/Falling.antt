-- The loop of `never_fall`, which holds each start against the one before it, and the table as a part of the slice. Assumes nothing.
use mathlib.Core.Path.{◌≡◌, ap, ◌∙◌}
use mathlib.Core.Bool.{Bool, ◌&&◌}
use mathlib.Core.List.{List}
use Prim.Native.Nat.{ℕ, suc, ◌+◌, ◌-◌, ◌<◌}
use native.Mathlib.Omega.{arith}
use lib.ListN.{length, get_or, take, length-take}
use Rattle.std.proofs.lemmas.List.{get_or-take}
use lib.Dec.{leb}
use Rattle.lists.specs.Members.{all_to}
use Rattle.site.specs.Tables.{start_at}
use Rattle.site.specs.Soundness.{never_fall}
use Rattle.lists.proofs.AllTo.{all_to_ext}

-- one start more: the pair w stands in l from c on
pub fall_step : (l w : List ℕ) (c d : ℕ) (ok : Bool) → d ≡ c + 1 → get_or w 0 0 ≡ get_or l (c + 0) 0 → get_or w 1 0 ≡ get_or l (c + 1) 0 → ok ≡ never_fall c l
    → (ok && leb (get_or w 0 0) (get_or w 1 0)) ≡ never_fall d l
unfolding never_fall
fall_step l w c d ok i e f g =
    let j : d ≡ suc c = omega arith in
    let z : c + 0 ≡ c = omega arith in
    rw (j, e, f, g, z)

-- the first n + 1 numbers of a list
pub table_falls : (l : List ℕ) (n : ℕ) → n < length l → never_fall (length (take (n + 1) l) - 1) (take (n + 1) l) ≡ never_fall n l
unfolding never_fall
table_falls l n h =
    let z : length (take (n + 1) l) ≡ n + 1 = simp length-take (omega arith) in
    let y : length (take (n + 1) l) - 1 ≡ n = omega arith in
    ap (all_to _) y
    ∙ all_to_ext (λ c. leb (start_at (take (n + 1) l) c) (start_at (take (n + 1) l) (c + 1))) (λ c. leb (start_at l c) (start_at l (c + 1))) n
    (λ c q. ap (λ (x : ℕ). leb x (start_at (take (n + 1) l) (c + 1))) (same c (omega arith)) ∙ ap (leb (start_at l c)) (same (c + 1) (omega arith)))
  where
    same : (i : ℕ) → i < n + 1 → get_or (take (n + 1) l) i 0 ≡ get_or l i 0
    same i q = get_or-take (n + 1) l i 0 q

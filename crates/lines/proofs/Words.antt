-- One more word, and the words that are to agree. Assumes nothing.
use mathlib.Core.Path.{◌≡◌, refl}
use mathlib.Core.Bool.{Bool, true, false}
use mathlib.Core.List.{List}
use Prim.Native.Nat.{ℕ, suc, ◌+◌, ◌-◌, ◌≤◌, ◌<◌}
use native.Mathlib.Omega.{arith}
use lib.Dec.{ltb}
use lib.ListN.{get_or}
use borrow.Author.Tests.{ltb-true, lt-ltb, le-ltb, le-leb, lt-leb, eq-eqb, ne_eqb}
use Rattle.lines.specs.Words.{more_if, after_push, alike, same_tail}

-- ---- one more word
more_least : (b : Bool) (n : ℕ) → n ≤ more_if b n
more_least true n = omega arith
more_least false n = omega arith

more_most : (b : Bool) (n : ℕ) → more_if b n ≤ n + 1
more_most true n = omega arith
more_most false n = omega arith

module _ (room n : ℕ) where
  pub push_fits : n < room → n + 1 ≡ after_push room n
  push_fits h = rw (lt-ltb n room h)

  pub push_full : room ≤ n → n ≡ after_push room n
  push_full h = rw (le-ltb n room h)

  pub push_least : n ≤ after_push room n
  push_least = more_least (ltb n room) n

  pub push_most : after_push room n ≤ n + 1
  push_most = more_most (ltb n room) n

  within : (b : Bool) → ltb n room ≡ b → n ≤ room → more_if b n ≤ room
  within true e h = let l : n < room = ltb-true n room e in omega arith
  within false e h = h

  pub push_within : n ≤ room → after_push room n ≤ room
  push_within h = within (ltb n room) refl h

-- ---- the words that are to agree
module _ (s t : List ℕ) (n r : ℕ) where
  pub tail_short : n < r → false ≡ same_tail s n t r
  tail_short h = rw (lt-ltb 0 r (omega arith), lt-leb r n h)

  pub tail_none : r ≡ 0 → false ≡ same_tail s n t r
  tail_none h = rw (le-ltb 0 r (omega arith))

  pub alike_first : alike s t (n - r) 0 (r - 0) ≡ alike s t (n - r) 0 r
  alike_first = let e : r - 0 ≡ r = omega arith in rw e

  module _ (i : ℕ) (h : i < r) where
    pub alike_more : get_or s (n - r + i) 0 ≡ get_or t i 0 → alike s t (n - r) (i + 1) (r - (i + 1)) ≡ alike s t (n - r) i (r - i)
    alike_more w = let e : r - i ≡ suc (r - (i + 1)) = omega arith in rw (e, eq-eqb _ _ w)

    alike_not : (get_or s (n - r + i) 0 ≡ get_or t i 0 → ⊥) → alike s t (n - r) i (r - i) ≡ false
    alike_not w = let e : r - i ≡ suc (r - (i + 1)) = omega arith in rw (e, ne_eqb _ _ w)

    pub tail_differs : r ≤ n → alike s t (n - r) i (r - i) ≡ alike s t (n - r) 0 r → (get_or s (n - r + i) 0 ≡ get_or t i 0 → ⊥) → false ≡ same_tail s n t r
    tail_differs l k w = let e : alike s t (n - r) i (r - i) ≡ false = alike_not w in rw (lt-ltb 0 r (omega arith), le-leb r n l) (cc)

  pub tail_same : (i : ℕ) → r ≤ i → 0 < r → r ≤ n → alike s t (n - r) i (r - i) ≡ alike s t (n - r) 0 r → true ≡ same_tail s n t r
  tail_same i h p l k = let e : r - i ≡ 0 = omega arith in rw (lt-ltb 0 r p, le-leb r n l) (rw e at k)

-- Letters in either case: what a byte counts as, and that a byte below A is spelt by itself alone.
-- Assumes nothing.
use Rattle.std.proofs.Common.{◌≡◌, ℕ, ◌-◌, ◌<◌, ◌≤◌, Bool, true, false, cond, ◌&&◌, eqb, leb, List, [], ◌∷◌, sym, refl, ◌∙◌, arith, ne_eqb, le-leb, leb-true}
use borrow.Author.Tests.{lt-leb}
use Rattle.wkt.specs.Rules.{capital_of}
use Rattle.wkt.specs.Parse.{starts, spells}

-- ---- a byte that is its own capital
pub capital_low : (b : ℕ) → b < 97 → b ≡ capital_of b
capital_low b h = rw (lt-leb 97 b h)

pub capital_high : (b : ℕ) → 97 ≤ b → 122 < b → b ≡ capital_of b
capital_high b h g = rw (le-leb 97 b h, lt-leb b 122 g)

-- ---- a byte below A
module _ (b : ℕ) (low : b < 65) where
  plain_by : (x : ℕ) (p q : Bool) → leb 97 x ≡ p → leb x 122 ≡ q → eqb (cond (p && q) (x - 32) x) b ≡ eqb x b
  plain_by x true true e f =
      let h : 97 ≤ x = leb-true _ _ e in
      ne_eqb (x - 32) b (λ g. omega arith) ∙ sym (ne_eqb x b (λ g. omega arith))
  plain_by x true false e f = refl
  plain_by x false q e f = refl

  pub plain : (t : List ℕ) → spells capital_of b t ≡ starts b t
  plain [] = refl
  plain (x ∷ t) = plain_by x (leb 97 x) (leb x 122) refl refl

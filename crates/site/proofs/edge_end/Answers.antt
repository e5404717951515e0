-- `site::edge_end` meets its contract. Assumes nothing.
use Rattle.site.specs.Tables.{first_of, len_of, owner_at, edge_end_of}
use borrow.Author.Tests.{eq-eqb, ne_eqb}
use Prim.Native.Nat.{ℕ, ◌+◌, min}
use mathlib.Core.List.{List}
use mathlib.Core.Path.{◌≡◌, ◌∙◌}
use Rattle.site.proofs.edge_end.Goals as goal

-- the two ways: after the last point, and before it
module _ (g o : List ℕ) (e k first len : ℕ) (k_is : k ≡ owner_at o e) (first_is : first ≡ first_of g k) (len_is : len ≡ len_of g k) where
  end : first + len ≡ first_of g (owner_at o e) + len_of g (owner_at o e)
  end = rw (first_is, len_is, k_is)

  closing : e + 1 ≡ first + len → first ≡ edge_end_of g o e
  unfolding edge_end_of
  closing h = rw (eq-eqb (e + 1) (first_of g (owner_at o e) + len_of g (owner_at o e)) (h ∙ end)) (rw (first_is, k_is))

  onward : (e + 1 ≡ first + len → ⊥) → min (e + 1) 4294967295 ≡ edge_end_of g o e
  unfolding edge_end_of
  onward h = rw (ne_eqb (e + 1) (first_of g (owner_at o e) + len_of g (owner_at o e)) (λ q. h (rw end q)))

pub returns-then-at-first : goal.returns-then-at-first
returns-then-at-first c = closing _ _ _ _ _ _ c.owner_at-owner.ensures c.first_of-first.ensures c.len_of-len.ensures c.if-at-first.true

pub returns : goal.returns
returns c = c.saturating_add.ensures ∙ onward _ _ _ _ _ _ c.owner_at-owner.ensures c.first_of-first.ensures c.len_of-len.ensures c.if-at-first.false

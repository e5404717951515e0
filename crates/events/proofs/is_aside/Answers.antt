-- `is_aside`: another corner than the kept one, by the three tests. Assumes nothing.
use mathlib.Core.Logic.{inl, inr}
use borrow.Author.Tests.{eq-eqb, ne_eqb}
use Rattle.events.specs.Spots.{is_aside}
use Rattle.events.proofs.is_aside.Goals as goal

pub returns-then-b-ne-NO_VERTEX : goal.returns-then-b-ne-NO_VERTEX
unfolding is_aside
returns-then-b-ne-NO_VERTEX c = rw (ne_eqb c.args.a 4294967295 c.if-b-ne-NO_VERTEX.true.0, ne_eqb c.args.b 4294967295 c.if-b-ne-NO_VERTEX.true.1)

pub returns-else-b-ne-NO_VERTEX : goal.returns-else-b-ne-NO_VERTEX
unfolding is_aside
returns-else-b-ne-NO_VERTEX c =
    elim c.if-b-ne-NO_VERTEX.either [ inl p ↦ rw (ne_eqb c.args.a 4294967295 p.0, eq-eqb c.args.b 4294967295 p.1) (cc) | inr q ↦ rw (eq-eqb c.args.a 4294967295 q) (cc) ]

-- `kept`: the first corner that there is. Assumes nothing.
use borrow.Author.Tests.{eq-eqb, ne_eqb}
use Rattle.events.proofs.kept.Goals as goal

pub returns-then-a-eq-NO_VERTEX : goal.returns-then-a-eq-NO_VERTEX
returns-then-a-eq-NO_VERTEX c = rw (eq-eqb c.args.a 4294967295 c.if-a-eq-NO_VERTEX.true)

pub returns-else-a-eq-NO_VERTEX : goal.returns-else-a-eq-NO_VERTEX
returns-else-a-eq-NO_VERTEX c = rw (ne_eqb c.args.a 4294967295 c.if-a-eq-NO_VERTEX.false)

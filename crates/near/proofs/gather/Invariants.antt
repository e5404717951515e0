-- `near::gather` meets its contract. Assumes nothing.
use Rattle.build.specs.Outcome.{span_at}
use Rattle.near.proofs.Gathering.{Gathering}
use Rattle.near.proofs.gather.Given as goal

abbrev pub invariant-loop-id : goal.invariant-loop-id
invariant-loop-id l = Gathering (span_at l.g l.points l.polygons) l.g.cols l.q l.n l.t l.keys l.id

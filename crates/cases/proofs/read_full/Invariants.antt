-- `read_full`: the count stays within the part.
use Rattle.std.proofs.Common.{◌≡◌, ◌≤◌, length}
use Rattle.cases.proofs.read_full.Given as goal

abbrev pub invariant-loop : goal.invariant-loop
invariant-loop l = record {
  within : l.n ≤ length l.part;
  most : l.most ≡ length l.part;
}

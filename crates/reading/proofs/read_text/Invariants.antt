-- `read_text`: the count stays within the text.
use Rattle.std.proofs.Common.{◌≡◌, ◌≤◌, length}
use Rattle.reading.proofs.read_text.Given as goal

abbrev pub invariant-loop : goal.invariant-loop
invariant-loop g l = record {
  within : l.n ≤ length l.text;
  most : l.most ≡ length l.text;
}

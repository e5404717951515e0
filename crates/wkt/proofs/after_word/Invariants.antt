-- `wkt::after_word` meets its contract. Assumes nothing.
use Rattle.std.proofs.Common.{◌≡◌, ◌+◌, ◌≤◌, length, drop}
use Rattle.wkt.specs.Rules.{capital_of}
use Rattle.wkt.specs.Parse.{begins}
use Rattle.wkt.proofs.after_word.Given as goal

abbrev pub invariant-loop-i : goal.invariant-loop-i
invariant-loop-i l = (begins capital_of l.word (drop l.at l.s) ≡ begins capital_of (drop l.i l.word) (drop (l.at + l.i) l.s)) × (l.at + l.i ≤ length l.s)

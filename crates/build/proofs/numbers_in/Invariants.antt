-- `numbers_in`: one number a turn. Assumes nothing.
use mathlib.Core.Path.{◌≡◌}
use lib.Ieee.{nan}
use lib.ListN.{get_or}
use Rattle.lists.specs.Members.{all_to}
use Rattle.bounds.specs.Domain.{in_domain}
use Rattle.build.proofs.numbers_in.Given as goal

abbrev pub invariant-loop-x : goal.invariant-loop-x
invariant-loop-x l = l.ok ≡ all_to (λ j. in_domain (get_or l.given j nan)) l.x-index

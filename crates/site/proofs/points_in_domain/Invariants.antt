-- `site::points_in_domain` meets its contract. Assumes nothing.
use mathlib.Core.Path.{◌≡◌}
use Rattle.site.specs.Domain.{point_in_domain}
use Rattle.site.specs.Tables.{point_at}
use Rattle.lists.specs.Members.{all_to}
use Rattle.site.proofs.points_in_domain.Given as goal

abbrev pub invariant-loop-i : goal.invariant-loop-i
invariant-loop-i l = l.ok ≡ all_to (λ j. point_in_domain (point_at l.points j)) l.i

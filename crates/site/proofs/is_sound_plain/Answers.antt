-- `site::is_sound_plain` meets its contract. Assumes nothing.
use native.Mathlib.Omega.{arith}
use Rattle.std.proofs.lemmas.Bool.Decides.{nat_tests}
use Rattle.site.specs.Soundness.{sound_plain}
use Rattle.site.proofs.is_sound_plain.Goals as goal

pub returns-then-points_in_domain : goal.returns-then-points_in_domain
unfolding sound_plain
returns-then-points_in_domain c = grind (arith, nat_tests)

pub returns-else-points_in_domain : goal.returns-else-points_in_domain
unfolding sound_plain
returns-else-points_in_domain c = grind (arith, nat_tests)

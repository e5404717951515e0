-- `site::is_sound` meets its contract. Assumes nothing.
use mathlib.Core.Bool.{true}
use mathlib.Core.Path.{◌≡◌}
use native.Mathlib.Omega.{arith}
use Rattle.std.proofs.lemmas.Bool.Decides.{nat_tests}
use Rattle.site.specs.Tables.{tables_of}
use Rattle.site.specs.Soundness.{tables_long, parts_inside, sound_of}
use Rattle.site.proofs.SoundLaws.{long, parts_in}
use Rattle.site.proofs.is_sound.Goals as goal

pub all_own-requires : goal.all_own-requires
all_own-requires c =
    let t : tables_long c.args.site (tables_of c.args.t) ≡ true = grind arith in
    let p : parts_inside c.args.site.polygons c.args.site.points c.args.t.polygons.now ≡ true = grind arith in
    λ k h. omega (arith, (long _ _ t).owners, parts_in _ _ _ p k h)

pub starts_right-requires : goal.starts_right-requires
starts_right-requires c =
    let t : tables_long c.args.site (tables_of c.args.t) ≡ true = grind arith in
    (long _ _ t).starts

pub items_right-requires : goal.items_right-requires
items_right-requires c =
    let t : tables_long c.args.site (tables_of c.args.t) ≡ true = grind arith in
    (long _ _ t).items

pub returns-then-starts_right : goal.returns-then-starts_right
unfolding sound_of
returns-then-starts_right c = grind (arith, nat_tests)

pub returns-else-starts_right : goal.returns-else-starts_right
unfolding sound_of
returns-else-starts_right c = grind (arith, nat_tests)

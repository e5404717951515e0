-- NO SECOND OUTCOME FITS: what is promised of one setting and one lot of lent tables leaves one answer and one content of every lent cell. Assumes nothing.
use Rattle.std.proofs.Common.{◌≡◌, sym, ◌∙◌, Result}
use Rattle.site.specs.Tables.{Tables}
use Rattle.build.specs.Outcome.{Does}
use Rattle.random.specs.declared.SceneConfig.{SceneConfig}
use Rattle.random.specs.Outcome.{outcome}
use Rattle.refusal.specs.declared.Refusal.{Refusal}
use Rattle.site.specs.declared.Site.{Site}

pub only : (config : SceneConfig) (lent : Tables) (r q : (Result Site Refusal)) (left other : Tables) → Does (outcome config lent) r left → Does (outcome config lent) q other → (r ≡ q) × (left ≡ other)
only config lent r q left other a b = (a.says ∙ sym b.says, a.leaves ∙ sym b.leaves)

-- A RANDOM SITE THAT IS MADE IS ONE THAT BUILDING MADE (`random_built`), SO IT IS SOUND, AND A REFUSAL LEAVES EVERY TABLE AS IT WAS: what is refused before the
-- building writes nothing.
-- Assumes nothing.
use Rattle.std.proofs.Common.{◌≡◌, ℕ, Bool, true, false, cond, ◌&&◌, ltb, arith, Result, Ok, Err}
use Rattle.site.specs.declared.Site.{Site}
use Rattle.site.specs.Tables.{Tables}
use Rattle.site.specs.Soundness.{sound_of}
use Rattle.build.specs.Outcome as building
use Rattle.build.proofs.BuiltSound.{built_sound}
use Rattle.build.proofs.Refusing.{nothing_written}
use Rattle.random.specs.declared.SceneConfig.{SceneConfig}
use Rattle.random.specs.Draws.{points_of, lens_of}
use Rattle.random.specs.Outcome.{in_random_size, refused, outcome}
use Rattle.refusal.specs.declared.Refusal.{Refusal}
use Rattle.refusal.specs.declared.Refusal.TheVariants.{TooMany, OutsideDomain}

no_site : (n : Refusal) (s : Site) → ◌≡◌ {A = Result Site Refusal} (Ok s) (Err n) → ⊥
no_site n s e = let z : ◌≡◌ {A = ℕ} 0 1 = cc in omega arith

module _ (lent left : Tables) (o : building.Outcome) where
  by_building : (many sizes : Bool) (s : Site) → building.Does (cond many (refused TooMany lent) (cond sizes o (refused OutsideDomain lent))) (Ok s) left → building.Does o (Ok s) left
  by_building true sizes s d = absurd (no_site TooMany s d.says)
  by_building false true s d = d
  by_building false false s d = absurd (no_site OutsideDomain s d.says)

  left_alone : (n : Refusal) (many sizes : Bool) → building.Does (cond many (refused TooMany lent) (cond sizes o (refused OutsideDomain lent))) (Err n) left
      → (building.Does o (Err n) left → left ≡ lent) → left ≡ lent
  left_alone n true sizes d f = d.leaves
  left_alone n false true d f = f d
  left_alone n false false d f = d.leaves

module _ (config : SceneConfig) (lent left : Tables) where
  -- the building of what is drawn
  abbrev pub built : building.Outcome
  built = building.outcome config.width config.height (points_of config) (lens_of config) lent

  -- a random site is a site that building made
  pub random_built : (s : Site) → building.Does (outcome config lent) (Ok s) left → building.Does built (Ok s) left
  unfolding outcome
  random_built s d = by_building lent left built (ltb 4096 config.polygon_count) (in_random_size config.width && in_random_size config.height) s d

  pub random_sound : (s : Site) → building.Does (outcome config lent) (Ok s) left → sound_of s left ≡ true
  random_sound s d = built_sound config.width config.height (points_of config) (lens_of config) lent left s (random_built s d)

  pub untouched : (n : Refusal) → building.Does (outcome config lent) (Err n) left → left ≡ lent
  unfolding outcome
  untouched n d =
      left_alone lent left built n (ltb 4096 config.polygon_count) (in_random_size config.width && in_random_size config.height) d
      (nothing_written config.width config.height (points_of config) (lens_of config) lent left n)

-- What new stamps and building do, with their answers as numbers: every part of an outcome. The box query's is `Lists` of crate `grid`. Definitions only.
use Rattle.std.specs.Prelude.{◌≡◌, List, ℕ, Float}
use Rattle.site.specs.Tables.{Tables}
use Rattle.build.specs.Outcome as building
use Rattle.build.specs.Numbers.{made_floats, made_counts}
use Rattle.scene.specs.Stamping.{NewOutcome}
use Rattle.refusal.specs.Numbers.{status_of}

-- new stamps
pub record Anew (o : NewOutcome) (status : ℕ) (marks : List ℕ) (epoch : ℕ) : Type 0 where
  pub status_is : status ≡ status_of o.answer
  pub marks_are : marks ≡ o.marks
  pub epoch_is : epoch ≡ o.epoch

-- building
pub record Builds (o : building.Outcome) (status : ℕ) (left : Tables) (head : List Float) (counts : List ℕ) : Type 0 where
  pub status_is : status ≡ status_of o.answer
  pub left_are : left ≡ o.left
  pub head_is : head ≡ made_floats o.answer
  pub counts_are : counts ≡ made_counts o.answer

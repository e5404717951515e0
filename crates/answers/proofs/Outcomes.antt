-- An answer as numbers has every part of the outcome. Assumes nothing.
use mathlib.Core.Path.{◌≡◌, ap, ◌∙◌}
use mathlib.Core.List.{List}
use Prim.Native.Nat.{ℕ}
use lib.Ieee.{Float}
use Rattle.site.specs.Tables.{Tables}
use Rattle.std.proofs.Common.{Result}
use Rattle.refusal.specs.declared.Refusal.{Refusal}
use Rattle.refusal.specs.Numbers.{status_of}
use Rattle.site.specs.declared.Site.{Site}
use Rattle.build.specs.Outcome as building
use Rattle.build.specs.Numbers.{made_floats, made_counts}
use Rattle.scene.specs.Stamping.{NewOutcome, NewIs}
use Rattle.answers.specs.Outcomes.{Anew, Builds}

pub anew
    : (o : NewOutcome) (a : Result (Unit {0}) Refusal) (marks : List ℕ) (epoch : ℕ) (status : ℕ) → NewIs o a marks epoch → status ≡ status_of a
    → Anew o status marks epoch
anew o a marks epoch status d s = record {
  status_is = s ∙ ap status_of d.answer_is;
  marks_are = d.marks_are;
  epoch_is = d.epoch_is;
}

pub builds
    : (o : building.Outcome) (a : Result Site Refusal) (left : Tables) (status : ℕ) (head : List Float) (counts : List ℕ) → building.Does o a left
    → status ≡ status_of a → head ≡ made_floats a → counts ≡ made_counts a → Builds o status left head counts
builds o a left status head counts d s h n = record {
  status_is = s ∙ ap status_of d.says;
  left_are = d.leaves;
  head_is = h ∙ ap made_floats d.says;
  counts_are = n ∙ ap made_counts d.says;
}

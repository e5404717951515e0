-- Building's answer as numbers has every part of the outcome. Assumes nothing.
use Rattle.std.proofs.Common.{Result}
use mathlib.Core.Path.{◌≡◌, ap, ◌∙◌}
use mathlib.Core.List.{List}
use Prim.Native.Nat.{ℕ}
use Rattle.tables.specs.Tables as tables
use Rattle.probe.specs.Numbers.{Builds, built_count}
use Rattle.refusal.specs.declared.Refusal.{Refusal}
use Rattle.refusal.specs.Numbers.{status_of}

pub builds
    : (o : tables.Outcome) (a : Result ℕ Refusal) (starts items : List ℕ) (status count : ℕ) → tables.Does o a starts items
    → status ≡ status_of a → count ≡ built_count a → Builds o status starts items count
builds o a starts items status count d s n = record {
  status_is = s ∙ ap status_of d.says;
  starts_are = d.starts_are;
  items_are = d.items_are;
  count_is = n ∙ ap built_count d.says;
}

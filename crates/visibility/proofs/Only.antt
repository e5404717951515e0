-- NO SECOND OUTCOME: what the promise says of one input leaves one answer and one content of every lent cell. Assumes nothing.
use Rattle.std.proofs.Common.{Result}
use mathlib.Core.Path.{◌≡◌, sym, ap, ◌∙◌}
use Prim.Native.Nat.{ℕ}
use lib.Ieee.{Float}
use Rattle.site.specs.declared.Site.{Site}
use Rattle.site.specs.Tables.{Tables}
use Rattle.cone.specs.declared.ViewCone.{ViewCone}
use Rattle.room.specs.declared.Rooms.{Rooms}
use Rattle.view.specs.Outcome.{Lent, Outcome, out}
use Rattle.visibility.specs.Outcome.{Promise}
use Rattle.refusal.specs.declared.Refusal.{Refusal}
use Rattle.stages.specs.declared.Shown.{Shown}

module _ (site : Site) (t : Tables) (c : ViewCone) (tolerance : Float) (mode : ℕ) (k : Rooms) (l : Lent) where
  pub only : {o o' : Outcome} → Promise site t c tolerance mode k l o → Promise site t c tolerance mode k l o' → o ≡ o'
  only p q = p ∙ sym q

-- the same, cell by cell
pub record Same (a b : (Result Shown Refusal)) (x y : Lent) : Type 0 where
  pub answers : a ≡ b
  pub marks : x.marks ≡ y.marks
  pub epochs : x.epoch ≡ y.epoch
  pub floats : x.floats ≡ y.floats
  pub words : x.words ≡ y.words
  pub outlines : x.outline ≡ y.outline
  pub visible : x.visible ≡ y.visible

pub only_cells : (site : Site) (t : Tables) (c : ViewCone) (tolerance : Float) (mode : ℕ) (k : Rooms) (l : Lent) {a b : (Result Shown Refusal)} {x y : Lent}
    → Promise site t c tolerance mode k l (out a x) → Promise site t c tolerance mode k l (out b y) → Same a b x y
only_cells site t c tolerance mode k l p q =
    let e = only site t c tolerance mode k l p q in
    record {
      answers = ap (λ (o : Outcome). o.answer) e;
      marks = ap (λ (o : Outcome). o.left.marks) e;
      epochs = ap (λ (o : Outcome). o.left.epoch) e;
      floats = ap (λ (o : Outcome). o.left.floats) e;
      words = ap (λ (o : Outcome). o.left.words) e;
      outlines = ap (λ (o : Outcome). o.left.outline) e;
      visible = ap (λ (o : Outcome). o.left.visible) e;
    }

-- `look`: the query in front of the words, or none. Assumes nothing.
use Rattle.view.proofs.Asking.{look_query, look_empty, look_inside}
use Prim.Native.Nat.{◌-◌}
use native.Mathlib.Omega.{arith}
use mathlib.Core.Path.{refl}
use mathlib.Core.Logic.{⊎_elim}
use Rattle.view.proofs.look.Goals as goal

pub returns-in-Query : goal.returns-in-Query
returns-in-Query c = look_query _ _ _ _ _ _ c.args.words.now (c.args.room - 0) c.in-Query.is c.requires.1 (omega arith) c.box_query.auto.ids c.box_query.ensures refl

pub returns-in-Empty : goal.returns-in-Empty
returns-in-Empty c = ⊎_elim (λ e. look_empty _ _ _ _ _ _ _ e) (λ e. look_inside _ _ _ _ _ _ _ e) c.in-Empty.is

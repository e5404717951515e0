-- `push`: the place that `place_of` chose is safe, and what is done there is the definition's.
use mathlib.Core.Path.{refl}
use lib.ListN.{length-set}
use Rattle.outline.proofs.Ways.{push_by, safe_at, clash}
use native.Mathlib.Omega.{arith}
use Rattle.outline.proofs.push.Goals as goal

pub overflow_sub-pts : goal.overflow_sub-pts
overflow_sub-pts c = omega (arith, safe_at _ _ c.in-Corner.is c.place_of.ensures.safe)

pub bounds-pts-n : goal.bounds-pts-n
bounds-pts-n c = omega (arith, safe_at _ _ c.in-Corner.is c.place_of.ensures.safe)

pub overflow_sub-pts-in-Corner : goal.overflow_sub-pts-in-Corner
overflow_sub-pts-in-Corner c = omega (arith, safe_at _ _ c.in-Corner.is c.place_of.ensures.safe)

pub bounds-pts-n-in-Corner : goal.bounds-pts-n-in-Corner
bounds-pts-n-in-Corner c = simp length-set (omega (arith, safe_at _ _ c.in-Corner.is c.place_of.ensures.safe))

pub overflow_sub-pts-in-Same : goal.overflow_sub-pts-in-Same
overflow_sub-pts-in-Same c = omega (arith, safe_at _ _ c.in-Same.is c.place_of.ensures.safe)

pub bounds-pts-n-in-Same : goal.bounds-pts-n-in-Same
bounds-pts-n-in-Same c = omega (arith, safe_at _ _ c.in-Same.is c.place_of.ensures.safe)

pub overflow_sub-pts-in-Same-2 : goal.overflow_sub-pts-in-Same-2
overflow_sub-pts-in-Same-2 c = omega (arith, safe_at _ _ c.in-Same.is c.place_of.ensures.safe)

pub bounds-pts-n-in-Same-2 : goal.bounds-pts-n-in-Same-2
bounds-pts-n-in-Same-2 c = simp length-set (omega (arith, safe_at _ _ c.in-Same.is c.place_of.ensures.safe))

pub bounds-pts-n-in-Add : goal.bounds-pts-n-in-Add
bounds-pts-n-in-Add c = omega (arith, safe_at _ _ c.in-Add.is c.place_of.ensures.safe)

pub bounds-pts-n-in-Add-2 : goal.bounds-pts-n-in-Add-2
bounds-pts-n-in-Add-2 c = simp length-set (omega (arith, safe_at _ _ c.in-Add.is c.place_of.ensures.safe))

pub returns-in-Skip : goal.returns-in-Skip
returns-in-Skip c = record { result_after = push_by _ _ _ _ _ c.place_of.ensures.is c.in-Skip.is; pushed = record { within = c.requires; owners = refl; refinements = refl; open_before = λ z. z } }

pub returns-in-Corner : goal.returns-in-Corner
returns-in-Corner c = record { result_after = push_by _ _ _ _ _ c.place_of.ensures.is c.in-Corner.is; pushed = record { within = c.requires; owners = refl; refinements = refl; open_before = λ z. z } }

pub returns-in-Same : goal.returns-in-Same
returns-in-Same c = record { result_after = push_by _ _ _ _ _ c.place_of.ensures.is c.in-Same.is; pushed = record { within = c.requires; owners = refl; refinements = refl; open_before = λ z. z } }

pub returns-in-Add : goal.returns-in-Add
returns-in-Add c = record { result_after = push_by _ _ _ _ _ c.place_of.ensures.is c.in-Add.is; pushed = record { within = omega (arith, safe_at _ _ c.in-Add.is c.place_of.ensures.safe); owners = refl; refinements = refl; open_before = λ z. z } }

pub returns-in-Full : goal.returns-in-Full
returns-in-Full c = record { result_after = push_by _ _ _ _ _ c.place_of.ensures.is c.in-Full.is; pushed = record { within = c.requires; owners = refl; refinements = refl; open_before = λ z. absurd (clash refl z) } }

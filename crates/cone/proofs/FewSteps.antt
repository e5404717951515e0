-- An arc takes few steps, and an outline has few points: the opening angle is 7 at most and a step a 1,024th at least, or one of them is NaN and the quotient
-- with it. Assumes nothing.
use mathlib.Core.Path.{◌≡◌, refl, sym, subst}
use mathlib.Core.Logic.{◌⊎◌, inl, inr, ⊎_elim}
use mathlib.Core.Bool.{Bool, true, false, not, cond}
use mathlib.Core.List.{◌∷◌}
use Prim.Native.Nat.{ℕ, ◌+◌, ◌≤◌, zero-le}
use native.Mathlib.Omega.{arith}
use lib.ListN.{length}
use lib.IntN.{pos, negsuc}
use lib.Dec.{T, leb→le}
use lib.Ieee.{Float, nan, inf, fin, le, div, is_nan, of_bits, to_unsigned}
use Rattle.num.specs.Ops.{◌⊖◌, ◌⊗◌, ◌⊘◌, zero_f, one_f}
use Rattle.num.specs.Num.{ceil_of, max_of, clamp_of}
use Rattle.num.specs.Pages.{clamp_nan}
use Rattle.angle.specs.Angles.{acos_of, k_pi2}
use Rattle.geom.specs.Constants.{tau, nano, two}
use Rattle.bounds.specs.Within.{Within, WithinOrNan}
use Rattle.lists.proofs.Joined.{length_listed}
use Rattle.num.proofs.FloatOrder.{trans, clamp_between}
use Rattle.bounds.proofs.Within.{held, tests_within, or_nan, div_share, ceil_within, cast_within}
use Rattle.cone.specs.declared.ViewCone.{ViewCone}
use Rattle.cone.specs.Cone.{milli, is_full_of, fov_clamped_of, fov_of, view_of, reach_of, arc_step_of, steps_of, arc_point_of, arc_of, outline_of}

-- ---- the opening angle

minus_seven : Float
minus_seven = fin true 7 (pos 0)

seven : Float
seven = fin false 7 (pos 0)

low : T (le minus_seven zero_f)
unfolding le of_bits minus_seven
low = tt

high : T (le tau seven)
unfolding le of_bits seven
high = tt

rising : T (le zero_f tau)
unfolding le of_bits
rising = tt

held_seven : (x : Float) → T (not (is_nan x)) → Within 7 (clamp_of x zero_f tau)
unfolding minus_seven seven
held_seven x p =
    let b = clamp_between x zero_f tau p rising in
    tests_within 7 minus_seven seven (clamp_of x zero_f tau) (refl, refl) (refl, refl) (trans minus_seven zero_f (clamp_of x zero_f tau) low b.0) (trans (clamp_of x zero_f tau) tau seven b.1 high)

clamped_seven : (x : Float) → WithinOrNan 7 (clamp_of x zero_f tau)
unfolding is_nan
clamped_seven nan = subst (WithinOrNan 7) (sym (clamp_nan zero_f tau)) tt
clamped_seven (inf s) = or_nan 7 (clamp_of (inf s) zero_f tau) (held_seven (inf s) tt)
clamped_seven (fin s m e) = or_nan 7 (clamp_of (fin s m e) zero_f tau) (held_seven (fin s m e) tt)

tau_seven : WithinOrNan 7 tau
unfolding of_bits
tau_seven = leb→le _ _ tt

fov_seven : (c : ViewCone) → WithinOrNan 7 (fov_of c)
unfolding fov_of fov_clamped_of
fov_seven c = go (is_full_of c)
  where
    go : (b : Bool) → WithinOrNan 7 (cond b tau (clamp_of c.fov zero_f tau))
    go true = tau_seven
    go false = clamped_seven c.fov

-- ---- the step

share : Float
share = fin false 1 (negsuc 9)

share_milli : T (le share milli)
unfolding le of_bits share
share_milli = tt

share_quarter : T (le share k_pi2)
unfolding le of_bits share
share_quarter = tt

milli_quarter : T (le milli k_pi2)
unfolding le of_bits
milli_quarter = tt

held_share : (x : Float) → T (not (is_nan x)) → T (le share (clamp_of x milli k_pi2))
held_share x p = trans share milli (clamp_of x milli k_pi2) share_milli (clamp_between x milli k_pi2 p milli_quarter).0

clamped_share : (x : Float) → (clamp_of x milli k_pi2 ≡ nan) ⊎ T (le share (clamp_of x milli k_pi2))
unfolding is_nan
clamped_share nan = inl (clamp_nan milli k_pi2)
clamped_share (inf s) = inr (held_share (inf s) tt)
clamped_share (fin s m e) = inr (held_share (fin s m e) tt)

step_share : (r tolerance : Float) → (arc_step_of r tolerance ≡ nan) ⊎ T (le share (arc_step_of r tolerance))
unfolding arc_step_of
step_share r tolerance = go (le r (max_of tolerance nano)) (two ⊗ acos_of (one_f ⊖ max_of tolerance nano ⊘ r))
  where
    go : (b : Bool) (x : Float) → (cond b k_pi2 (clamp_of x milli k_pi2) ≡ nan) ⊎ T (le share (cond b k_pi2 (clamp_of x milli k_pi2)))
    go true x = inr share_quarter
    go false x = clamped_share x

-- ---- the quotient

by_nan : (x : Float) → WithinOrNan 7 x → WithinOrNan 7168 (x ⊘ nan)
unfolding div
by_nan nan h = tt
by_nan (inf s) h = absurd h
by_nan (fin s m e) h = tt

by_share : (x y : Float) → WithinOrNan 7 x → T (le share y) → WithinOrNan 7168 (x ⊘ y)
unfolding share
by_share nan y h l = unfold div in tt
by_share (inf s) y h l = absurd h
by_share (fin s m e) y h l = or_nan 7168 (fin s m e ⊘ y) (div_share 7 1024 7168 (fin s m e) y share (refl, refl) (leb→le _ _ tt) (held tt) h l)

ceil_or_nan : (x : Float) → WithinOrNan 7168 x → WithinOrNan 7168 (ceil_of x)
ceil_or_nan nan h = unfold ceil_of in tt
ceil_or_nan (inf s) h = absurd h
ceil_or_nan (fin s m e) h = or_nan 7168 (ceil_of (fin s m e)) (ceil_within 7168 (fin s m e) (held tt) h)

cast_or_nan : (x : Float) → WithinOrNan 7168 x → to_unsigned 64 x ≤ 7168
cast_or_nan nan h = unfold to_unsigned in zero-le
cast_or_nan (inf s) h = absurd h
cast_or_nan (fin s m e) h = cast_within 64 7168 (fin s m e) h

-- the number of steps before it is made 1 at least
pub few : (c : ViewCone) (tolerance : Float) → to_unsigned 64 (ceil_of (fov_of c ⊘ arc_step_of (reach_of c) tolerance)) ≤ 7168
few c tolerance =
    let q = fov_of c ⊘ arc_step_of (reach_of c) tolerance in
    cast_or_nan (ceil_of q) (ceil_or_nan q
    (⊎_elim
    (λ e. subst (λ (y : Float). WithinOrNan 7168 (fov_of c ⊘ y)) (sym e) (by_nan (fov_of c) (fov_seven c)))
    (λ l. by_share (fov_of c) (arc_step_of (reach_of c) tolerance) (fov_seven c) l)
    (step_share (reach_of c) tolerance)))

pub few_steps : (c : ViewCone) (tolerance : Float) → steps_of c tolerance ≤ 7168
unfolding steps_of
few_steps c tolerance = omega (arith, few c tolerance)

-- a circle has a point for each step, a sector two more
pub few_points : (c : ViewCone) (tolerance : Float) → length (outline_of c tolerance) ≤ 7170
unfolding outline_of
few_points c tolerance = go (is_full_of c)
  where
    n : ℕ
    n = steps_of c tolerance

    go : (b : Bool) → length (cond b (arc_of (view_of c) (reach_of c) n n) (c.origin ∷ arc_of (view_of c) (reach_of c) n (n + 1))) ≤ 7170
    go true = omega (arith, length_listed (arc_point_of (view_of c) (reach_of c) n) n, few_steps c tolerance)
    go false = omega (arith, length_listed (arc_point_of (view_of c) (reach_of c) n) (n + 1), few_steps c tolerance)

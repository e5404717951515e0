-- The ways through `ViewCone::outline`: each ends with the outcome. Assumes nothing.
use Rattle.std.proofs.Common.{Err, Ok}
use mathlib.Core.Path.{◌≡◌, sym, ap, ◌∙◌}
use mathlib.Core.Bool.{true, false}
use mathlib.Core.List.{List, ◌++◌}
use Prim.Native.Nat.{ℕ, ◌*◌, ◌-◌, ◌≤◌, ◌<◌}
use native.Mathlib.Omega.{arith}
use borrow.Author.Tests.{lt-ltb, le-ltb}
use lib.ListN.{length, take, replicate}
use lib.Seq.{sets}
use lib.Ieee.{Float}
use Rattle.num.specs.Ops.{zero_f}
use Rattle.lists.specs.Parts.{padded}
use Rattle.lists.proofs.Parts.{laid}
use Rattle.lists.proofs.Zeros.{clear_padded}
use Rattle.site.specs.Domain.{load_of}
use Rattle.cone.specs.declared.ViewCone.{ViewCone}
use Rattle.cone.specs.Cone.{numbers_of, Drawn}
use Rattle.cone.specs.Domain.{cone_in_domain, load_cone_of}
use Rattle.cone.specs.Outline.{outcome, points_for, laid_in, outline_outcome}
use Rattle.cone.proofs.Arcs.{length_numbers}
use Rattle.refusal.specs.declared.Refusal.TheVariants.{NoListRoom, OutsideDomain}

module _ (c : ViewCone) (tolerance : Float) (old : List Float) where
  pub way_one : cone_in_domain c ≡ false → outcome (Err OutsideDomain) old ≡ outline_outcome c tolerance old
  unfolding outline_outcome
  way_one i = rw i

  eight_is : cone_in_domain c ≡ true → length old < 2 * length (points_for c tolerance) → outline_outcome c tolerance old ≡ outcome (Err NoListRoom) (replicate (length old) zero_f)
  unfolding outline_outcome
  eight_is i h = rw (i, lt-ltb (length old) (2 * length (points_for c tolerance)) h)

  laid_is : cone_in_domain c ≡ true → 2 * length (points_for c tolerance) ≤ length old → outline_outcome c tolerance old ≡ laid_in (length old) (points_for c tolerance)
  unfolding outline_outcome
  laid_is i h = rw (i, le-ltb (length old) (2 * length (points_for c tolerance)) h)

  -- the n points of the loaded cone l with the loaded tolerance u were drawn, and the list is `mid` then
  module _ {l : ViewCone} {u : Float} (mid : List Float) (n : ℕ) (i : cone_in_domain c ≡ true) (l_is : l ≡ load_cone_of c) (u_is : u ≡ load_of tolerance) (D : Drawn l u old mid n) (long : length mid ≡ length old) where
    count : n ≡ length (points_for c tolerance)
    count = rw (l_is, u_is) at D.count

    points : mid ≡ sets old 0 (numbers_of (points_for c tolerance))
    points = rw (l_is, u_is) at D.points

    pub way_eight : {new : List Float} → length mid < 2 * n → new ≡ replicate (length mid) zero_f → outcome (Err NoListRoom) new ≡ outline_outcome c tolerance old
    way_eight {new} h e =
        let k : length old < 2 * length (points_for c tolerance) = omega (arith, count) in
        rw (eight_is i k, e, long)

    pub way_laid : {new : List Float} → 2 * n ≤ length mid → new ≡ take (2 * n) mid ++ replicate (length mid - 2 * n) zero_f → outcome (Ok n) new ≡ outline_outcome c tolerance old
    way_laid {new} h e =
        let xs = numbers_of (points_for c tolerance) in
        let m : 2 * n ≡ length xs = ap (λ (q : ℕ). 2 * q) count ∙ sym (length_numbers (points_for c tolerance)) in
        let k : 2 * length (points_for c tolerance) ≤ length old = omega (arith, count) in
        let p : new ≡ padded zero_f (length old) xs = clear_padded zero_f mid xs (2 * n) m (rw points (laid old 0 xs (omega (arith, m)))) (sym long) e in
        rw (laid_is i k, p, count)

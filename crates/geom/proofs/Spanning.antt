-- `spans`: by the order of squares the lower of the two parameters is not above 0 and the higher not below 1, so that `max` and `min` give the ends
-- themselves. Assumes nothing.
use Rattle.std.proofs.Common.{◌≡◌, Bool, true, false, cond, ◌&&◌, ◌||◌, T, sym, refl, subst, inl, inr}
use lib.Ieee.{Float, binary64, of_bits, lt, le, fits, is_nan}
use lib.Ieee.Bits.{is_true, of_bits-fits}
use lib.Ieee.Fits.{and_l, and_r, cond-fits}
use Rattle.num.specs.Ops.{◌⊕◌, ◌⊖◌, ◌⊗◌, ◌⊘◌, zero_f, one_f}
use Rattle.num.specs.Num.{min_of, max_of}
use Rattle.num.specs.Root.{sqrt_of}
use Rattle.num.proofs.Whole.{yes}
use Rattle.num.proofs.FloatOrder.{or_split, trans, lt_le_trans}
use Rattle.num.proofs.RootOrder.{above_zero, root_least, root_from}
use Rattle.num.proofs.OpOrder.{lower_end, higher_end, plain, plain_above, plain_root, add_grows}

-- ---- zero or what is above it
plain_max : (t : Float) → T (plain (max_of zero_f t))
unfolding max_of is_nan of_bits
plain_max t = go (lt zero_f t) (λ h. plain_above t (above_zero t (is_true (lt zero_f t) h)))
  where
    go : (p : Bool) → (T p → T (plain t)) → T (plain (cond p t (cond (is_nan zero_f) t zero_f)))
    go true f = f tt
    go false f = tt

max_fits : (t : Float) → T (fits binary64 t) → T (fits binary64 (max_of zero_f t))
unfolding max_of
max_fits t f = cond-fits binary64 (lt zero_f t) t (cond (is_nan zero_f) t zero_f) f (cond-fits binary64 (is_nan zero_f) t zero_f f (of_bits-fits binary64 0))

-- ---- the tests of `spans`
module _ (c w x t u : Float) (fc : T (fits binary64 c)) (fx : T (fits binary64 x)) (ft : T (fits binary64 t)) (is : u ≡ max_of zero_f t) where
  pub both_ends : ((lt zero_f w && lt zero_f x) && (le c zero_f || lt (c ⊗ c) x) && (lt (u ⊗ u) x && le w (c ⊕ u))) ≡ true
      → (max_of zero_f ((c ⊖ sqrt_of x) ⊘ w) ≡ zero_f) × (min_of ((c ⊕ sqrt_of x) ⊘ w) one_f ≡ one_f)
  both_ends h =
      let a = lt zero_f w && lt zero_f x in
      let b = le c zero_f || lt (c ⊗ c) x in
      let d = lt (u ⊗ u) x && le w (c ⊕ u) in
      let hab = and_l (a && b) d (yes h) in
      let hd = and_r (a && b) d (yes h) in
      let ha = and_l a b hab in
      let w0 = and_l (lt zero_f w) (lt zero_f x) ha in
      let p = above_zero w (is_true (lt zero_f w) w0) in
      let q = above_zero x (is_true (lt zero_f x) (and_r (lt zero_f w) (lt zero_f x) ha)) in
      let lower : T (le c (sqrt_of x)) = elim (or_split (le c zero_f) (lt (c ⊗ c) x) (and_r a b hab)) [ inl k ↦ trans c zero_f (sqrt_of x) k (root_least x q) | inr k ↦ root_from x c fx fc q k ] in
      let fu : T (fits binary64 u) = subst (λ (z : Float). T (fits binary64 z)) (sym is) (max_fits t ft) in
      let pu : T (plain u) = subst (λ (z : Float). T (plain z)) (sym is) (plain_max t) in
      let hw = and_r (lt (u ⊗ u) x) (le w (c ⊕ u)) hd in
      let grown = add_grows c u (sqrt_of x) pu (plain_root x fx q) (root_from x u fx fu q (and_l (lt (u ⊗ u) x) (le w (c ⊕ u)) hd)) (lt_le_trans zero_f w (c ⊕ u) w0 hw) in
      (lower_end c (sqrt_of x) w lower p, higher_end (c ⊕ sqrt_of x) w p (trans w (c ⊕ u) (c ⊕ sqrt_of x) hw grown))

-- the ends are in order
pub in_order : le zero_f one_f ≡ true
unfolding le of_bits
in_order = refl

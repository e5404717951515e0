-- `sum_of`: the numbers of a list, summed place by place; 4,096 of them fit. Assumes nothing.
use mathlib.Core.List.{List}
use mathlib.Core.Path.{◌≡◌, refl, sym, ap, ◌∙◌}
use Prim.Native.Nat.{ℕ, zero, suc, ◌+◌, ◌*◌, ◌≤◌}
use native.Mathlib.Omega.{arith}
use borrow.Author.Rules.{rules}
use lib.ListN.{length, get_or, take}
use lib.Seq.{take_all}
use Rattle.std.specs.List.{sum}
use Rattle.std.proofs.lemmas.List.Sums.{sum_by_more}
use Rattle.lists.specs.Lists.{sum_to}
use Rattle.build.specs.Stored.{first_in, len_in}
use Rattle.build.proofs.sum_of.Goals as goal

sum_is : (l : List ℕ) (n : ℕ) → n ≤ length l → sum (take n l) ≡ first_in l n
sum_is l zero h = refl
sum_is l (suc n) h =
    let e : suc n ≡ n + 1 = omega arith in
    ap (λ (m : ℕ). sum (take m l)) e ∙ sum_by_more (λ x. x) l n 0 h ∙ ap (λ (s : ℕ). s + get_or l n 0) (sum_is l n (omega arith))

sum_fits : (f : ℕ → ℕ) (v n : ℕ) → ((k : ℕ) → f k ≤ v) → sum_to f n ≤ n * v
sum_fits f v zero h = omega arith
sum_fits f v (suc n) h = omega (arith, sum_fits f v n h, h n)

pub returns : goal.returns
returns c =
    let l = c.args.lens.now in
    let s : c.sum.result ≡ sum c.args.lens.now = search rules in
    let t : c.sum.result ≡ first_in l (length l) = s ∙ ap sum (sym (take_all (length l) l (omega arith))) ∙ sum_is l (length l) (omega arith) in
    let b = sum_fits (len_in l) 4294967295 (length l) (λ k. omega (arith, c.type_inv.lens k)) in
    (t, omega arith)

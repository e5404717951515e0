-- Counting by marks: one more where a stretch begins and one less behind its end, as a `u32` wraps. Assumes nothing.
use Rattle.std.proofs.Common.{◌≡◌, ℕ, zero, suc, ◌+◌, ◌%◌, ◌<◌, ◌≤◌, max, false, List, length, get_or, set, sym, refl, ap, ◌∙◌, ⊎_elim, le_refl, add-one, arith, length-set, get_or-set_other, get_or-set_same, drop-set-lt}
use borrow.Author.Tests.{lt-leb}
use Rattle.lists.specs.Lists.{bit, sum_to}
use Rattle.lists.proofs.Cases.{lt_or_le, eq_or_ne}
use Rattle.lists.proofs.Sums.{sum_to_ext, sum_to_mono}
use Rattle.tables.specs.Scatter.{within}
use Rattle.tables.proofs.Cells.{within_in, within_out}
use Rattle.index.specs.Filling.{tally_of, Marked}

-- ---- one number of a list stored
module _ (l : List ℕ) (i v : ℕ) where
  sum_before : (n : ℕ) → n ≤ i → sum_to (λ j. get_or (set l i v) j 0) n ≡ sum_to (λ j. get_or l j 0) n
  sum_before n h = sum_to_ext (λ j. get_or (set l i v) j 0) (λ j. get_or l j 0) n (λ j g. get_or-set_other l i j v 0 (λ e. omega arith))

  sum_set : (n : ℕ) → i < length l → i < n → sum_to (λ j. get_or (set l i v) j 0) n + get_or l i 0 ≡ sum_to (λ j. get_or l j 0) n + v
  sum_set zero k h = absurd (omega arith)
  sum_set (suc n) k h =
      ⊎_elim
      (λ e. omega (arith, sum_before n (omega arith), ap (λ (q : ℕ). get_or (set l i v) q 0) e ∙ get_or-set_same l i v 0 k, ap (λ (q : ℕ). get_or l q 0) e))
      (λ e. omega (arith, sum_set n k (omega arith), get_or-set_other l i n v 0 e))
      (eq_or_ne n i)

-- ---- a stretch
pub unmarked : (more : ℕ → ℕ) (end : ℕ) (l : List ℕ) → ((b : ℕ) → more b ≡ 0) → Marked more end l l
unmarked more end l z = record { tallies = λ b. omega (arith, z b); rest = λ m h. refl }

module _ (l : List ℕ) (from to : ℕ) (h : from < to) (k : to < length l) (u v : ℕ) (hu : u ≡ (get_or l from 0 + 1) % 4294967296) (hv : (v + 1) % 4294967296 ≡ get_or (set l from u) to 0) where
  pub marked : Marked (λ b. bit (within from to b)) to l (set (set l from u) to v)
  marked = record {
    tallies = λ b.
        ⊎_elim
        (λ g. omega (arith, sum_before l from u (suc b) (omega arith), sum_before (set l from u) to v (suc b) (omega arith), ap bit (out b g)))
        (λ g.
        ⊎_elim
        (λ q. omega (arith, hu, sum_set l from u (suc b) (omega arith) (omega arith), sum_before (set l from u) to v (suc b) (omega arith), ap bit (within_in from to b g q)))
        (λ q. omega (arith, hu, hv, sum_set l from u (suc b) (omega arith) (omega arith), sum_set (set l from u) to v (suc b) long (omega arith), ap bit (within_out from to b q)))
        (lt_or_le b to))
        (lt_or_le b from);
    rest = λ m g. drop-set-lt m (set l from u) to v g ∙ drop-set-lt m l from u (omega arith);
  }
    where
      long : to < length (set l from u)
      long = omega (arith, length-set l from u)

      out : (b : ℕ) → b < from → within from to b ≡ false
      out b g = rw (lt-leb from b g)

-- ---- both stretches
pub marked_both : {p q : ℕ → ℕ} {c d : ℕ} {l m n : List ℕ} → Marked p c l m → Marked q d m n → Marked (λ b. q b + p b) (max d c) l n
marked_both {p} {q} {c} {d} {l} {m} {n} f g =
    record { tallies = λ b. omega (arith, f.tallies b, g.tallies b); rest = λ j h. g.rest j (omega arith) ∙ f.rest j (omega arith) }

-- ---- the sums
pub record Summing (w₀ w : List ℕ) (b tally sum : ℕ) : Type 0 where
  pub long : length w ≡ length w₀
  pub done : (j : ℕ) → j < b → get_or w j 0 ≡ sum_to (tally_of w₀) (suc j)
  pub left : (j : ℕ) → b ≤ j → get_or w j 0 ≡ get_or w₀ j 0
  pub tally_is : tally ≡ sum_to (λ j. get_or w₀ j 0) b % 4294967296
  pub sum_is : sum ≡ sum_to (tally_of w₀) b

pub summing_none : (w₀ : List ℕ) → Summing w₀ w₀ 0 0 0
summing_none w₀ = record { long = refl; done = λ j h. absurd (omega arith); left = λ j h. refl; tally_is = refl; sum_is = refl }

module _ (w₀ w : List ℕ) (b tally sum : ℕ) (h : b < length w₀) (t : Summing w₀ w b tally sum) (next : ℕ) (hn : next ≡ (tally + get_or w b 0) % 4294967296) where
  next_is : next ≡ tally_of w₀ b
  next_is = omega (arith, hn, t.left b (le_refl b), t.tally_is)

  pub sum_small : sum_to (tally_of w₀) (length w₀) ≤ 4294967295 → sum + next ≤ 4294967295
  sum_small small = omega (arith, small, t.sum_is, next_is, sum_to_mono (tally_of w₀) (suc b) (length w₀) (omega arith))

  pub summing_more : Summing w₀ (set w b (sum + next)) (b + 1) next (sum + next)
  summing_more =
      let s : sum + next ≡ sum_to (tally_of w₀) (suc b) = omega (arith, t.sum_is, next_is) in
      record {
        long = length-set w b (sum + next) ∙ t.long;
        done = λ j g.
            ⊎_elim
            (λ e. ap (λ (q : ℕ). get_or (set w b (sum + next)) q 0) e ∙ get_or-set_same w b (sum + next) 0 (omega (arith, t.long)) ∙ s ∙ ap (λ (q : ℕ). sum_to (tally_of w₀) (suc q)) (sym e))
            (λ e. get_or-set_other w b j (sum + next) 0 e ∙ t.done j (omega arith))
            (eq_or_ne j b);
        left = λ j g. get_or-set_other w b j (sum + next) 0 (λ e. omega arith) ∙ t.left j (omega arith);
        tally_is = next_is ∙ ap (λ (q : ℕ). sum_to (λ j. get_or w₀ j 0) q % 4294967296) (sym (add-one b));
        sum_is = s ∙ ap (sum_to (tally_of w₀)) (sym (add-one b));
      }

-- From what the callees of `range_query` leave to the outcome of the query. Assumes nothing.
use Prim.Native.Nat.{ℕ, ◌-◌, ◌<◌, ◌≤◌}
use mathlib.Core.Path.{◌≡◌, refl, ap, ◌∙◌}
use mathlib.Core.List.{List, ◌++◌}
use native.Mathlib.Omega.{arith}
use borrow.Author.Tests.{lt-ltb, le-ltb}
use lib.ListN.{length, take, replicate}
use lib.Seq.{sets, length-sets}
use Rattle.lists.proofs.Parts.{laid}
use Rattle.grid.specs.Stamps.{stamped, firsts, epoch_after, marks_begun}
use Rattle.grid.specs.Entries.{tally_of}
use Rattle.grid.specs.Query.{Is, counted, meeting}
use Rattle.grid.specs.declared.Tally.{Tally}
use Rattle.refusal.specs.declared.Refusal.TheVariants.{NoListRoom}
use Rattle.std.proofs.Common.{Err}

module _ (xs m : List ℕ) (e : ℕ) (ids marks₁ marks₂ ids₁ : List ℕ) (epoch₁ : ℕ) (t : Tally)
    (p : epoch₁ ≡ epoch_after e) (q : marks₁ ≡ marks_begun e m) (u : t ≡ tally_of epoch₁ marks₁ xs)
    (v : marks₂ ≡ stamped epoch₁ marks₁ xs) (w : ids₁ ≡ sets ids 0 (firsts epoch₁ marks₁ xs)) where
  count : t.found ≡ length (firsts (epoch_after e) (marks_begun e m) xs)
  unfolding tally_of
  count = rw (p, q) at (ap (λ (s : Tally). s.found) u)

  read : t.read ≡ length xs
  unfolding tally_of
  read = ap (λ (s : Tally). s.read) u

  wrote : ids₁ ≡ sets ids 0 (firsts (epoch_after e) (marks_begun e m) xs)
  wrote = rw (p, q) at w

  same : length ids₁ ≡ length ids
  same = ap length w ∙ length-sets ids 0 (firsts epoch₁ marks₁ xs)

  pub refused : (ids₂ : List ℕ) → length ids₁ < t.found → ids₂ ≡ replicate (length ids₁) 0
      → Is (meeting xs m e (length ids)) (Err NoListRoom) marks₂ epoch₁ ids₂
  refused ids₂ h z =
      let k = lt-ltb (length ids) (length (firsts (epoch_after e) (marks_begun e m) xs)) (omega (arith, count, same)) in
      simp k (record { answer_is = refl; marks_are = rw (p, q) at v; epoch_is = p; ids_are = rw same at z })

  pub listed : (ids₂ : List ℕ) → t.found ≤ length ids₁ → ids₂ ≡ take t.found ids₁ ++ replicate (length ids₁ - t.found) 0
      → Is (meeting xs m e (length ids)) (counted t.found t.read) marks₂ epoch₁ ids₂
  listed ids₂ h z =
      let k = le-ltb (length ids) (length (firsts (epoch_after e) (marks_begun e m) xs)) (omega (arith, count, same)) in
      let o = laid ids 0 (firsts (epoch_after e) (marks_begun e m) xs) (omega (arith, count, same)) in
      simp k (record { answer_is = rw (count, read); marks_are = rw (p, q) at v; epoch_is = p; ids_are = rw (count, same, wrote, o) at z })

-- Buckets filled a strip after the other: those up to lo are done, those from lo up to hi hold the edges from r on, and the rest hold none.
-- Assumes nothing.
use Rattle.std.proofs.Common.{◌≡◌, ℕ, ◌+◌, ◌-◌, ◌<◌, ◌≤◌, min, max, false, cond, ltb, leb, List, [], length, drop, sym, ap, ◌∙◌, ⊎_elim, arith, le-ltb, lt-ltb, le-leb}
use borrow.Author.Tests.{lt-leb}
use Rattle.lists.specs.Lists.{cons_if}
use Rattle.lists.proofs.Cases.{lt_or_le}
use Rattle.lists.proofs.Counting.{length_cons_if}
use Rattle.tables.proofs.Cells.{within_out}
use Rattle.index.specs.declared.Stretch.{Stretch}
use Rattle.index.specs.declared.Spans.{Spans}
use Rattle.index.specs.Spans.{covers, edge_bits}
use Rattle.index.specs.Angular.{in_bucket}
use Rattle.index.specs.Filling.{cut_of, cut_both}
use Rattle.index.proofs.Buckets.{Inside, none_past, rest_few}

-- ---- the part of a stretch in a strip
before : (lo hi : ℕ) (s : Stretch) (b : ℕ) → b < lo → covers (cut_of lo hi s) b ≡ false
before lo hi s b h = let l : leb (max lo s.from) b ≡ false = lt-leb (max lo s.from) b (omega arith) in rw l

behind : (lo hi : ℕ) (s : Stretch) (b : ℕ) → hi ≤ b → covers (cut_of lo hi s) b ≡ false
behind lo hi s b h = within_out (max lo s.from) (min s.to hi) b (omega arith)

here : (lo hi : ℕ) (s : Stretch) (b : ℕ) → lo ≤ b → b < hi → covers (cut_of lo hi s) b ≡ covers s b
here lo hi s b h k =
    ⊎_elim
    (λ l. rw (lt-leb (max lo s.from) b (omega arith), lt-leb s.from b l))
    (λ l.
    ⊎_elim
    (λ m. rw (le-leb (max lo s.from) b (omega arith), le-leb s.from b l, lt-ltb b (min s.to hi) (omega arith), lt-ltb b s.to m))
    (λ m. within_out (max lo s.from) (min s.to hi) b (omega arith) ∙ sym (within_out s.from s.to b m))
    (lt_or_le b s.to))
    (lt_or_le b s.from)

pub cut_in : (lo hi m : ℕ) (s : Spans) → Inside m s → Inside m (cut_both lo hi s)
cut_in lo hi m s i = record { first_in = omega (arith, i.first_in); second_in = omega (arith, i.second_in) }

module _ (spans : ℕ → Spans) (order : List ℕ) where
  -- what the bucket b holds
  abbrev pub strip : ℕ → ℕ → ℕ → ℕ → List ℕ
  strip lo hi r b = cond (ltb b lo) (in_bucket spans order b) (cond (ltb b hi) (in_bucket spans (drop r order) b) [])

  -- ---- a bucket before the strip, in it, and behind it
  done : (lo hi r b : ℕ) → b < lo → strip lo hi r b ≡ in_bucket spans order b
  done lo hi r b h = rw (lt-ltb b lo h)

  inside : (lo hi r b : ℕ) → lo ≤ b → b < hi → strip lo hi r b ≡ in_bucket spans (drop r order) b
  inside lo hi r b h k = rw (le-ltb b lo h, lt-ltb b hi k)

  empty : (lo hi r b : ℕ) → lo ≤ b → hi ≤ b → strip lo hi r b ≡ []
  empty lo hi r b h k = rw (le-ltb b lo h, le-ltb b hi k)

  -- where no edge is left, nothing from lo on
  pub strip_rest : (lo hi n b : ℕ) → drop n order ≡ [] → lo ≤ b → strip lo hi n b ≡ []
  strip_rest lo hi n b e h =
      ⊎_elim (λ k. inside lo hi n b h k ∙ ap (λ (q : List ℕ). in_bucket spans q b) e) (λ k. empty lo hi n b h k) (lt_or_le b hi)

  -- ---- the strip begins and ends
  pub strip_same : (lo hi n : ℕ) → drop n order ≡ [] → (b : ℕ) → strip lo hi n b ≡ strip lo lo n b
  strip_same lo hi n e b =
      ⊎_elim (λ h. done lo hi n b h ∙ sym (done lo lo n b h)) (λ h. strip_rest lo hi n b e h ∙ sym (strip_rest lo lo n b e h)) (lt_or_le b lo)

  pub strip_next : (lo hi r n : ℕ) → lo ≤ hi → r ≡ 0 → drop n order ≡ [] → (b : ℕ) → strip hi hi n b ≡ strip lo hi r b
  strip_next lo hi r n l z e b =
      ⊎_elim
      (λ h. done hi hi n b (omega arith) ∙ sym (done lo hi r b h))
      (λ h.
      ⊎_elim
      (λ k. done hi hi n b k ∙ sym (inside lo hi r b h k ∙ ap (λ (q : ℕ). in_bucket spans (drop q order) b) z))
      (λ k. strip_rest hi hi n b e k ∙ sym (empty lo hi r b h k))
      (lt_or_le b hi))
      (lt_or_le b lo)

  -- all is done
  pub strip_all : (m : ℕ) → ((i : ℕ) → Inside m (spans i)) → (lo n : ℕ) → m ≤ lo → drop n order ≡ [] → (b : ℕ) → in_bucket spans order b ≡ strip lo lo n b
  strip_all m i lo n h e b =
      ⊎_elim (λ k. sym (done lo lo n b k)) (λ k. none_past spans m i order b (omega arith) ∙ sym (strip_rest lo lo n b e k)) (lt_or_le b lo)

  -- ---- one edge more
  pub strip_more : (lo hi r : ℕ) (s : Spans) (id : ℕ)
      → ((b : ℕ) → in_bucket spans (drop (r - 1) order) b ≡ cons_if (covers s.first b) id (cons_if (covers s.second b) id (in_bucket spans (drop r order) b)))
      → (b : ℕ) → strip lo hi (r - 1) b ≡ cons_if (covers (cut_both lo hi s).first b) id (cons_if (covers (cut_both lo hi s).second b) id (strip lo hi r b))
  strip_more lo hi r s id more b =
      ⊎_elim
      (λ h. rw (before lo hi s.first b h, before lo hi s.second b h) (done lo hi (r - 1) b h ∙ sym (done lo hi r b h)))
      (λ h.
      ⊎_elim
      (λ k. rw (here lo hi s.first b h k, here lo hi s.second b h k) (inside lo hi (r - 1) b h k ∙ more b
      ∙ ap (λ (q : List ℕ). cons_if (covers s.first b) id (cons_if (covers s.second b) id q)) (sym (inside lo hi r b h k))))
      (λ k. rw (behind lo hi s.first b k, behind lo hi s.second b k) (empty lo hi (r - 1) b h k ∙ sym (empty lo hi r b h k)))
      (lt_or_le b hi))
      (lt_or_le b lo)

  -- no bucket holds more than it will
  pub strip_few : (lo hi r b : ℕ) → length (strip lo hi r b) ≤ length (in_bucket spans order b)
  strip_few lo hi r b =
      ⊎_elim
      (λ h. omega (arith, ap length (done lo hi r b h)))
      (λ h.
      ⊎_elim
      (λ k. omega (arith, ap length (inside lo hi r b h k), rest_few spans order r b))
      (λ k. omega (arith, ap length (empty lo hi r b h k)))
      (lt_or_le b hi))
      (lt_or_le b lo)

pub strip_long : (id : ℕ) (u : Spans) (b : ℕ) (l m : List ℕ) → m ≡ cons_if (covers u.first b) id (cons_if (covers u.second b) id l) → length m ≡ edge_bits u b + length l
strip_long id u b l m e =
    omega (arith, ap length e, length_cons_if (covers u.first b) id (cons_if (covers u.second b) id l), length_cons_if (covers u.second b) id l)

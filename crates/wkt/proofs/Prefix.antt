-- Lists that are read one entry after the other: what was read before, in front of what is still read. And an answer is not a refusal.
-- Assumes nothing.
use Rattle.std.proofs.Common.{◌≡◌, ℕ, ◌+◌, ◌<◌, Bool, true, false, ◌&&◌, List, [], ◌∷◌, ◌++◌, length, get_or, drop, sym, refl, ap, ◌∙◌, append_assoc, arith, drop-drop}
use Rattle.lists.proofs.Parts.{drop_here}
use Rattle.wkt.specs.Parse.{Parse, got, wrong, and_then, join, spells, begins, only_if, word}

module _ {A : Type 0} where
  pub not_wrong : (a : A) (t : List ℕ) → got a t ≡ wrong → ⊥
  not_wrong a t e = let z : ◌≡◌ {A = ℕ} 0 1 = cc in omega arith

  pub not_got : (a : A) (t : List ℕ) → wrong ≡ got a t → ⊥
  not_got a t e = let z : ◌≡◌ {A = ℕ} 0 1 = cc in omega arith

  pub same_got : (a b : A) (t u : List ℕ) → got a t ≡ got b u → (b ≡ a) × (u ≡ t)
  same_got a b t u e = (cc, cc)

  abbrev pub prefixed : List A → Parse (List A) → Parse (List A)
  prefixed qs (got ps t) = got (qs ++ ps) t
  prefixed qs wrong = wrong

  pub prefixed_join : (qs : List A) (p : A) (r : Parse (List A)) → prefixed qs (join p r) ≡ prefixed (qs ++ (p ∷ [])) r
  prefixed_join qs p (got ps t) = rw append_assoc
  prefixed_join qs p wrong = refl

  pub prefixed_nil : (r : Parse (List A)) → prefixed [] r ≡ r
  prefixed_nil (got ps t) = refl
  prefixed_nil wrong = refl

-- the text behind n bytes, by the cursor behind them
pub behind : (s : List ℕ) (at n next : ℕ) → next ≡ at + n → drop n (drop at s) ≡ drop next s
behind s at n next e = drop-drop n at s ∙ ap (λ (i : ℕ). drop i s) (sym e)

-- ---- words, by what a byte counts as
word_then_by : {A B : Type 0} (c : Bool) (t : List ℕ) (k : List ℕ → Parse A) (g : A → List ℕ → Parse B) → only_if c (λ b. and_then (k b) g) t ≡ and_then (only_if c k t) g
word_then_by true t k g = refl
word_then_by false t k g = refl

module _ (g : ℕ → ℕ) where
  pub begins_step : (v : List ℕ) (t : List ℕ) (i : ℕ) (b : Bool) → i < length v → spells g (get_or v i 0) t ≡ b → begins g (drop i v) t ≡ (b && begins g (drop (i + 1) v) (drop 1 t))
  begins_step v t i b h e = rw (drop_here v i 0 h, e)

  pub word_yes : {A : Type 0} (v t : List ℕ) (k : List ℕ → Parse A) → begins g v t ≡ true → k (drop (length v) t) ≡ word g v t k
  word_yes v t k e = rw e

  pub word_then : {A B : Type 0} (v t : List ℕ) (k : List ℕ → Parse A) (h : A → List ℕ → Parse B) → word g v t (λ b. and_then (k b) h) ≡ and_then (word g v t k) h
  word_then v t k h = word_then_by (begins g v t) (drop (length v) t) k h

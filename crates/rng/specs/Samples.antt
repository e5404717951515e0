-- Sample P7 of document 01, and the first five words from the seed 1234567, as a second
-- computation of the Rust's lines, by arithmetic on whole numbers, gives them. Assumes nothing.
use Rattle.std.specs.Prelude.{◌≡◌, ℕ, zero, suc, List, [], ◌∷◌, refl}
use Rattle.rng.specs.declared.Rng.{Rng}
use Rattle.rng.specs.Rng.{new_of, next_u64_of, range_of}

-- P7: `range` of 5 to 5 is 5, from any generator, which stays as it was
pub p7 : (g : Rng) → range_of g 5 5 ≡ record { rng = g; value = 5 }
unfolding range_of
p7 g = refl

-- the next n words
unfoldable pub words_of : ℕ → Rng → List ℕ
unfolding next_u64_of
words_of zero g = []
words_of (suc n) g = (next_u64_of g).value ∷ words_of n (next_u64_of g).rng

pub published :
    words_of 5 (new_of 1234567)
    ≡ 6457827717110365317 ∷ 3203168211198807973 ∷ 9817491932198370423 ∷ 4593380528125082431 ∷ 16408922859458223821 ∷ []
unfolding words_of
published = refl

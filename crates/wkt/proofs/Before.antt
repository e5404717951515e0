-- WHAT WAS READ BEFORE document 02's Q-2, and that "9 is no longer given for these two, and nothing else moves". `read_before`: a text that was read by document 01's
-- rules is read the same. `other_line`: a line that is not POLYGON EMPTY, in whatever case, is read as its raised letters were by document 01's rules, or refused as
-- they were. `nothing_else`: so is a text of which no empty polygon is read. Assumes nothing.
use Rattle.std.proofs.Common.{◌≡◌, ℕ, zero, suc, ◌<◌, ◌≤◌, Bool, true, false, leb, List, [], ◌∷◌, length, sym, refl, ap, ◌∙◌, subst, le_refl, arith}
use mathlib.Core.Bool.{false≢true}
use Rattle.lists.specs.Members.{All}
use Rattle.wkt.specs.Limits.{max_bytes}
use Rattle.wkt.specs.Words.{empty_line}
use Rattle.wkt.specs.Parse.{Parse, got, wrong, and_then, join, begins, only_if}
use Rattle.wkt.specs.Rules.{Rules, capital_of, raised, rules, former, Reads, Wider}
use Rattle.wkt.specs.Grammar.{Point, polygon, Post, post_line, Text, scene, polygons, posted, text_of, NoneEmpty}
use Rattle.wkt.proofs.Prefix.{not_got, same_got}
use Rattle.wkt.proofs.Lined.{polygon_empty, polygon_ring}
use Rattle.wkt.proofs.Raised.{up, polygon_raised, text_raised}
use Rattle.wkt.proofs.Wider.{kept_both, ring_more, post_more, text_more}

-- ---- READ BEFORE
former_wider : (w f g : ℕ) → f ≤ g → Wider (former w f) (rules w g)
former_wider w f g h = record { words = record { whole = refl; part = h; letter = λ b c k e. ap capital_of e ∙ k }; empty = λ i. absurd (false≢true i) }

-- also with more decimals allowed
pub read_before : (w f g : ℕ) → f ≤ g → (t : List ℕ) (x : Text) (u : List ℕ) → text_of (former w f) t ≡ got x u → text_of (rules w g) t ≡ got x u
read_before w f g h t x u e = text_more (former w f) (rules w g) (former_wider w f g h) t x u e

-- ---- NOTHING ELSE MOVES
module _ (w f : ℕ) where
  -- letters in either case, and no EMPTY
  abbrev between : Rules
  between = record { whole = w; part = f; letter = capital_of; empty = false }

  less : Reads (rules w f) between
  less = record { whole = refl; part = le_refl f; letter = λ b c k e. e }

  more : Reads between (rules w f)
  more = record { whole = refl; part = le_refl f; letter = λ b c k e. e }

  -- each line but POLYGON EMPTY
  pub other_line : (t : List ℕ) → begins capital_of empty_line t ≡ false → polygon (former w f) (raised t) ≡ up (polygon (rules w f) t)
  other_line t e =
      polygon_raised w f false capital_of (λ b. b) (λ x. refl) t
      ∙ ap up (kept_both (polygon between t) (polygon (rules w f) t)
      (λ ps u i. ring_more between (rules w f) more t ps u (polygon_ring between t refl ∙ i))
      (λ ps u i. ring_more (rules w f) between less t ps u (polygon_ring (rules w f) t e ∙ i)))

  -- a polygon that has points is read without EMPTY
  filled : (t : List ℕ) (ps : List Point) (u : List ℕ) → polygon (rules w f) t ≡ got ps u → 0 < length ps → polygon between t ≡ got ps u
  filled t ps u e h = go (begins capital_of empty_line t) refl
    where
      go : (b : Bool) → begins capital_of empty_line t ≡ b → polygon between t ≡ got ps u
      go true i =
          let z : length ps ≡ 0 = ap length (same_got [] ps _ u (sym (polygon_empty (rules w f) t i) ∙ e)).0 in
          absurd (omega arith)
      go false i = ring_more (rules w f) between less t ps u (polygon_ring (rules w f) t i ∙ e)

  module _ (n : ℕ) (h : (t : List ℕ) (rs : List (List Point)) (u : List ℕ) → polygons (rules w f) n t ≡ got rs u → All (λ ps. 0 < length ps) rs → polygons between n t ≡ got rs u) where
    on_lines : (ps : List Point) (v : List ℕ) (r : Parse (List (List Point))) → polygons (rules w f) n v ≡ r → (rs : List (List Point)) (u : List ℕ) → join ps r ≡ got rs u → All (λ ps. 0 < length ps) rs
        → (0 < length ps) × (join ps (polygons between n v) ≡ got rs u)
    on_lines ps v (got qs z) p rs u e a =
        let q = same_got (ps ∷ qs) rs z u e in
        let b = subst (All (λ ps. 0 < length ps)) q.0 a in
        (b.0, ap (join ps) (h v qs z p b.1) ∙ e)
    on_lines ps v wrong p rs u e a = absurd (not_got rs u e)

    on_line : (t : List ℕ) (r : Parse (List Point)) → polygon (rules w f) t ≡ r → (rs : List (List Point)) (u : List ℕ) → and_then r (λ ps b. join ps (polygons (rules w f) n b)) ≡ got rs u → All (λ ps. 0 < length ps) rs
        → and_then (polygon between t) (λ ps b. join ps (polygons between n b)) ≡ got rs u
    on_line t (got ps v) p rs u e a =
        let q = on_lines ps v (polygons (rules w f) n v) refl rs u e a in
        ap (λ (z : Parse (List Point)). and_then z (λ ps b. join ps (polygons between n b))) (filled t ps v p q.0) ∙ q.1
    on_line t wrong p rs u e a = absurd (not_got rs u e)

    on : (t : List ℕ) (rs : List (List Point)) (u : List ℕ) → polygons (rules w f) (suc n) t ≡ got rs u → All (λ ps. 0 < length ps) rs → polygons between (suc n) t ≡ got rs u
    unfolding polygons
    on [] rs u e a = e
    on (b ∷ t) rs u e a = on_line (b ∷ t) (polygon (rules w f) (b ∷ t)) refl rs u e a

  none_left : (t : List ℕ) (rs : List (List Point)) (u : List ℕ) → polygons (rules w f) zero t ≡ got rs u → polygons between zero t ≡ got rs u
  unfolding polygons
  none_left [] rs u e = e
  none_left (b ∷ t) rs u e = e

  lines : (n : ℕ) (t : List ℕ) (rs : List (List Point)) (u : List ℕ) → polygons (rules w f) n t ≡ got rs u → All (λ ps. 0 < length ps) rs → polygons between n t ≡ got rs u
  lines zero = λ t rs u e a. none_left t rs u e
  lines (suc n) = on n (lines n)

  -- ---- the whole text: read, or refused
  after_post : (p : Post) (v : List ℕ) (r : Parse (List (List Point))) → polygons (rules w f) (length v) v ≡ r → (x : Text) (u : List ℕ) → and_then r (λ rs a. got (scene p rs) a) ≡ got x u → NoneEmpty (got x u)
      → posted between p v ≡ got x u
  after_post p v (got rs z) q x u e a =
      let s = same_got (scene p rs) x z u e in
      ap (λ (r : Parse (List (List Point))). and_then r (λ rs a. got (scene p rs) a)) (lines (length v) v rs z q (subst (λ (y : Text). NoneEmpty (got y u)) s.0 a)) ∙ e
  after_post p v wrong q x u e a = absurd (not_got x u e)

  on_post : (t : List ℕ) (r : Parse Post) → post_line (rules w f) t ≡ r → (x : Text) (u : List ℕ) → and_then r (posted (rules w f)) ≡ got x u → NoneEmpty (got x u) → and_then (post_line between t) (posted between) ≡ got x u
  on_post t (got p v) q x u e a =
      ap (λ (r : Parse Post). and_then r (posted between)) (post_more (rules w f) between less t p v q) ∙ after_post p v (polygons (rules w f) (length v) v) refl x u e a
  on_post t wrong q x u e a = absurd (not_got x u e)

  read : (t : List ℕ) (x : Text) (u : List ℕ) → text_of (rules w f) t ≡ got x u → NoneEmpty (got x u) → text_of between t ≡ got x u
  unfolding text_of
  read t x u = go (leb (length t) max_bytes)
    where
      go : (b : Bool) → only_if b (λ a. and_then (post_line (rules w f) a) (posted (rules w f))) t ≡ got x u → NoneEmpty (got x u) → only_if b (λ a. and_then (post_line between a) (posted between)) t ≡ got x u
      go true e a = on_post t (post_line (rules w f) t) refl x u e a
      go false e a = absurd (not_got x u e)

  refused : (t : List ℕ) (r : Parse Text) → text_of between t ≡ r → text_of (rules w f) t ≡ wrong → r ≡ wrong
  refused t (got x u) e g = absurd (not_got x u (sym g ∙ text_more between (rules w f) (record { words = more; empty = λ i. absurd (false≢true i) }) t x u e))
  refused t wrong e g = refl

  without : (t : List ℕ) (r : Parse Text) → text_of (rules w f) t ≡ r → NoneEmpty r → text_of between t ≡ r
  without t (got x u) e a = read t x u e a
  without t wrong e a = refused t (text_of between t) refl e

  pub nothing_else : (t : List ℕ) → NoneEmpty (text_of (rules w f) t) → text_of (former w f) (raised t) ≡ text_of (rules w f) t
  nothing_else t a = text_raised w f false capital_of (λ b. b) (λ x. refl) t ∙ without t (text_of (rules w f) t) refl a

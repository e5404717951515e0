-- Laws of `Only` and `Stored`: a stretch was written and nothing else, and one entry of a list that is read by a rule was written.
-- Assumes nothing.
use mathlib.Core.Path.{◌≡◌, refl, sym, ap, ◌∙◌, subst, subst⁻¹}
use mathlib.Core.Logic.{◌⊎◌, ⊎_elim}
use mathlib.Core.List.{List, [], ◌∷◌, ◌++◌, append-nil}
use Prim.Native.Nat.{ℕ, ◌+◌, ◌-◌, ◌≤◌, ◌<◌}
use native.Mathlib.Nat.{le_refl}
use native.Mathlib.Numerals.{add-one}
use native.Mathlib.Omega.{arith}
use lib.ListN.{length, get_or, set, drop, length-set, drop_of_length-le}
use lib.Seq.{sets, take_all, take-set-le, drop-set-lt, get_or-set_same}
use borrow.Rule.Slice.PartMut.{put_mid, mid_len, same_len_mid, set_mid_at, take_put, drop_put}
use Rattle.lists.specs.Lists.{listed}
use Rattle.lists.specs.Parts.{part, Only, Stored}
use Rattle.lists.proofs.Parts.{front_less, front_get_d, front_part, rest_more, rest_get_d, part_behind, get_d_part, put_laid, get_d_has}
use Rattle.lists.proofs.Stores.{sets_front}
use Rattle.lists.proofs.Joined.{listed_ext}

module _ {A : Type 0} where
  -- ---- making one

  pub only_refl : (a b : ℕ) (l : List A) → Only a b l l
  only_refl a b l = record { long = refl; front = refl; rest = refl }

  pub only_trans : {a b : ℕ} {l m n : List A} → Only a b l m → Only a b m n → Only a b l n
  only_trans p q = record { long = q.long ∙ p.long; front = q.front ∙ p.front; rest = q.rest ∙ p.rest }

  -- the same of a wider stretch
  pub only_wider : {a b : ℕ} {l m : List A} (c d : ℕ) → c ≤ a → b ≤ d → Only a b l m → Only c d l m
  only_wider {a} {b} {l} {m} c d h k o = record { long = o.long; front = front_less c a m l h o.front; rest = rest_more b d m l k o.rest }

  pub only_set : (a b : ℕ) (l : List A) (i : ℕ) (v : A) → a ≤ i → i < b → Only a b l (set l i v)
  only_set a b l i v h k = record { long = length-set l i v; front = take-set-le a l i v h; rest = drop-set-lt b l i v k }

  -- the part from a up to e was lent and came back as v
  pub only_put : (a e : ℕ) (l v : List A) → a ≤ e → e ≤ length l → length v ≡ e - a → Only a e l (put_mid a (e - a) l v)
  only_put a e l v h k n = record {
    long = same_len_mid a (e - a) l v (n ∙ sym (mid_len a e l k));
    front = take_put a (e - a) l v (omega arith);
    rest = drop_put a e l v h k n;
  }

  -- ---- what is outside stays

  pub only_get_d : {a b : ℕ} {l m : List A} (i : ℕ) (d : A) → Only a b l m → (i < a) ⊎ (b ≤ i) → get_or m i d ≡ get_or l i d
  only_get_d {a} {b} {l} {m} i d o = ⊎_elim (λ h. front_get_d a m l i d h o.front) (λ h. rest_get_d b m l i d h o.rest)

  pub only_part : {a b : ℕ} {l m : List A} (c e : ℕ) → Only a b l m → (e ≤ a) ⊎ (b ≤ c) → part c e m ≡ part c e l
  only_part {a} {b} {l} {m} c e o =
      ⊎_elim (λ h. front_part a c e m l h o.front) (λ h. part_behind b c e m h ∙ ap (part (c - b) (e - b)) o.rest ∙ sym (part_behind b c e l h))

  -- the entries of equal parts
  pub part_get_d : (c e : ℕ) (l m : List A) (i : ℕ) (d : A) → part c e m ≡ part c e l → c ≤ i → i < e → get_or m i d ≡ get_or l i d
  part_get_d c e l m i d p h k =
      let s : c + (i - c) ≡ i = omega arith in
      let w : (q : List A) → get_or q i d ≡ get_or (part c e q) (i - c) d
      = λ q. ap (λ (n : ℕ). get_or q n d) (sym s) ∙ sym (get_d_part c e q (i - c) d (omega arith)) in
      w m ∙ ap (λ (q : List A). get_or q (i - c) d) p ∙ sym (w l)

  -- ---- what stands in a part that came back

  pub get_d_put : (a e : ℕ) (l v : List A) (j : ℕ) (d : A) → a ≤ length l → j < length v → get_or (put_mid a (e - a) l v) (a + j) d ≡ get_or v j d
  get_d_put a e l v j d h k = get_d_has (put_mid a (e - a) l v) a v j d (put_laid a (e - a) l v h) k

  -- v, n long, was put in l at a, and that made m
  pub record Laid (a n : ℕ) (v l m : List A) : Type 0 where
    pub only : Only a (a + n) l m
    pub at : (j q : ℕ) (d : A) → q ≡ a + j → j < n → get_or m q d ≡ get_or v j d

  -- a part was lent and came back as v
  pub laid_put : (a e n : ℕ) (l v : List A) → e ≡ a + n → e ≤ length l → length v ≡ n → Laid a n v l (put_mid a (e - a) l v)
  laid_put a e n l v g h k =
      let o : Only a e l (put_mid a (e - a) l v) = only_put a e l v (omega arith) h (omega arith) in
      record {
        only = subst (λ (q : ℕ). Only a q l (put_mid a (e - a) l v)) g o;
        at = λ j q d f r. ap (λ (x : ℕ). get_or (put_mid a (e - a) l v) x d) f ∙ get_d_put a e l v j d (omega arith) (omega arith);
      }

  -- a part was lent and came back with x stored at its place i
  pub laid_set : (a e : ℕ) (l : List A) (i : ℕ) (x : A) → e ≤ length l → i < e - a → Laid (a + i) 1 (x ∷ []) l (put_mid a (e - a) l (set (part a e l) i x))
  laid_set a e l i x h k =
      let s : put_mid a (e - a) l (set (part a e l) i x) ≡ set l (a + i) x = set_mid_at a (e - a) i l x (rw (mid_len a e l h) k) in
      subst⁻¹ (λ (m : List A). Laid (a + i) 1 (x ∷ []) l m) s
      (record {
        only = only_set (a + i) (a + i + 1) l (a + i) x (le_refl (a + i)) (omega arith);
        at = λ j q d f r. let z : j ≡ 0 = omega arith in ap (λ (y : ℕ). get_or (set l (a + i) x) y d) (f ∙ omega arith) ∙ get_or-set_same l (a + i) x d (omega arith) ∙ ap (λ (y : ℕ). get_or (x ∷ []) y d) (sym z);
      })

  -- a list stored over the whole of another
  pub sets_whole : (l xs : List A) → length l ≡ length xs → sets l 0 xs ≡ xs
  sets_whole l xs e =
      let k : length l ≤ length xs = omega arith in
      sets_front l xs
      ∙ ap (λ (q : List A). q ++ drop (length xs) l) (take_all (length l) xs (omega arith))
      ∙ ap (λ (q : List A). xs ++ q) (drop_of_length-le l k)
      ∙ append-nil xs

  -- ---- one entry was written

  module _ {before after : ℕ → A} {n i : ℕ} {x : A} (s : Stored before after n i x) where
    -- the next one
    pub stored_more : i < n → listed after (i + 1) ≡ listed before i ++ (x ∷ [])
    stored_more h =
        let e : listed after i ≡ listed before i = listed_ext after before i (λ j l. s.others j (omega arith) (λ q. omega arith)) in
        let w = s.here in
        rw (add-one, e, w)

-- WHAT IS READ OF A TEXT IS THE FLOAT NEAREST TO THE NUMBER THAT STANDS THERE, over the counts w and f of digits allowed. `number_nearest`: where a float is read,
-- the text starts with a numeral, sign, digits, point and digits, and the float is the one nearest to what they write. `number_read`: every numeral is read, to its
-- end. And raising f changes nothing that was read before: `number_more`. What is left is an end of the text: `number_end`.
-- Assumes nothing.
use Rattle.std.proofs.Common.{◌≡◌, ℕ, zero, suc, ◌+◌, ◌-◌, ◌*◌, ◌^◌, ◌<◌, ◌≤◌, Bool, true, false, cond, ◌&&◌, eqb, leb, List, [], ◌∷◌, ◌++◌, length, drop, sym, refl, ap, ◌∙◌, subst, append_assoc, zero-le, le_trans, le_of_eq, lt_of_lt_of_le, mul-le-mul_right, mul_assoc, mul_comm, pow-suc, mul-one, arith, ne_eqb, eqb-true, le-leb, leb-true}
use mathlib.Core.Bool.{false≢true, and-eq-true_iff}
use lib.Ieee.{Float}
use Rattle.wkt.specs.Parse.{Parse, got, wrong, and_then, starts, is_digit, cons_while, run, past, value_of}
use Rattle.wkt.specs.Number.{Digits, digits, digits_of, decimal, with_part, after_whole, with_whole, unsigned, number}
use Rattle.wkt.specs.Numeral.{Numeral, point_of, lower, upper, Digit, Stands}
use Rattle.wkt.specs.Nearest.{Nearest}
use Rattle.wkt.specs.Words.{minus_byte, minus_if, point_byte}
use Rattle.lists.specs.Members.{All}
use Rattle.wkt.proofs.Numerals.{dec_fits}
use Rattle.wkt.proofs.Prefix.{not_got, same_got}
use Rattle.wkt.proofs.Nearest.{decimal_nearest}

-- ---- digits write a number below 10 ^ their count
digit_few : (b : ℕ) (p q : Bool) → leb b 57 ≡ q → (p && q) ≡ true → b - 48 ≤ 9
digit_few b p q e h = omega (arith, leb-true b 57 (e ∙ ((and-eq-true_iff p q).0 h).1))

pub digits_few : (l : List ℕ) (a : ℕ) → All Digit l → value_of a l < suc a * 10 ^ length l
digits_few [] a h = omega (arith, mul-one (suc a))
digits_few (b ∷ l) a h =
    let n = length l in
    let d = digit_few b (leb 48 b) (leb b 57) refl h.0 in
    let s : suc (a * 10 + (b - 48)) ≤ suc a * 10 = omega arith in
    lt_of_lt_of_le (digits_few l (a * 10 + (b - 48)) h.1) (le_trans (mul-le-mul_right (10 ^ n) s) (le_of_eq (mul_assoc (suc a) 10 (10 ^ n) ∙ ap (λ (x : ℕ). suc a * x) (mul_comm 10 (10 ^ n) ∙ sym (pow-suc 10 n)))))

-- ---- the digits that a text starts with, and what follows them
run_past : (t : List ℕ) → t ≡ run t ++ past t
run_past [] = refl
run_past (b ∷ t) = go (is_digit b) (run_past t)
  where
    go : (d : Bool) → t ≡ run t ++ past t → b ∷ t ≡ cons_while d b (run t) ++ cond d (past t) (b ∷ t)
    go true e = ap (λ (l : List ℕ). b ∷ l) e
    go false e = refl

run_digits : (t : List ℕ) → All Digit (run t)
run_digits [] = tt
run_digits (b ∷ t) = go (is_digit b) refl (run_digits t)
  where
    go : (d : Bool) → is_digit b ≡ d → All Digit (run t) → All Digit (cons_while d b (run t))
    go true e h = (e, h)
    go false e h = tt

past_none : (t : List ℕ) → run (past t) ≡ []
past_none [] = refl
past_none (b ∷ t) = go (is_digit b) refl (past_none t)
  where
    go : (d : Bool) → is_digit b ≡ d → run (past t) ≡ [] → run (cond d (past t) (b ∷ t)) ≡ []
    go true e h = h
    go false e h = rw e

no_digits : {A : Type 0} (l : List ℕ) → 1 ≤ length l → l ≡ [] → A
no_digits l h e = let n : length l ≡ 0 = ap length e in absurd (omega arith)

-- and the other way round: digits, and then no digit
run_is : (l r : List ℕ) → All Digit l → run r ≡ [] → run (l ++ r) ≡ l
run_is [] r h e = e
run_is (b ∷ l) r h e = let d = h.0 in rw d (ap (λ (k : List ℕ). b ∷ k) (run_is l r h.1 e))

past_stays : (r : List ℕ) → run r ≡ [] → past r ≡ r
past_stays [] e = refl
past_stays (b ∷ r) e = go (is_digit b) e
  where
    go : (d : Bool) → cons_while d b (run r) ≡ [] → cond d (past r) (b ∷ r) ≡ b ∷ r
    go true e = no_digits (b ∷ run r) (omega arith) e
    go false e = refl

past_is : (l r : List ℕ) → All Digit l → run r ≡ [] → past (l ++ r) ≡ r
past_is [] r h e = past_stays r e
past_is (b ∷ l) r h e = let d = h.0 in rw d (past_is l r h.1 e)

-- ---- 1 to limit digits were read: the run, and nothing else
pub record Ran (limit : ℕ) (t : List ℕ) (v k : ℕ) (u : List ℕ) : Type 0 where
  pub value : v ≡ value_of 0 (run t)
  pub count : k ≡ length (run t)
  pub rest : u ≡ past t
  pub some : 1 ≤ length (run t)
  pub few : length (run t) ≤ limit

pub ran : (limit : ℕ) (t : List ℕ) (v k : ℕ) (u : List ℕ) → digits_of limit t ≡ got (digits v k) u → Ran limit t v k u
unfolding digits_of
ran limit t v k u = go (leb 1 (length (run t)) && leb (length (run t)) limit) refl
  where
    go : (b : Bool) → (leb 1 (length (run t)) && leb (length (run t)) limit) ≡ b → cond b (got (digits (value_of 0 (run t)) (length (run t))) (past t)) wrong ≡ got (digits v k) u → Ran limit t v k u
    go true e h =
        let s = same_got (digits (value_of 0 (run t)) (length (run t))) (digits v k) (past t) u h in
        let d : digits v k ≡ digits (value_of 0 (run t)) (length (run t)) = s.0 in
        let both = (and-eq-true_iff (leb 1 (length (run t))) (leb (length (run t)) limit)).0 e in
        record { value = cc; count = cc; rest = s.1; some = leb-true 1 (length (run t)) both.0; few = leb-true (length (run t)) limit both.1 }
    go false e h = absurd (not_got (digits v k) u h)

-- digits that stand there are read
reads : (limit : ℕ) (l r : List ℕ) → All Digit l → run r ≡ [] → 1 ≤ length l → length l ≤ limit → digits_of limit (l ++ r) ≡ got (digits (value_of 0 l) (length l)) r
unfolding digits_of
reads limit l r h e a b = rw (run_is l r h e, past_is l r h e, le-leb 1 (length l) a, le-leb (length l) limit b)

-- ---- a byte that the text starts with
starts_with : (b : ℕ) (t : List ℕ) → starts b t ≡ true → t ≡ b ∷ drop 1 t
starts_with b [] e = absurd (false≢true e)
starts_with b (x ∷ t) e = ap (λ (y : ℕ). y ∷ t) (eqb-true x b e)

-- ---- x was read of the text t, and `rest` is left: a numeral stands there, and x is the float nearest to its value
pub record Written (w f : ℕ) (t rest : List ℕ) (x : Float) : Type 0 where
  pub numeral : Numeral
  pub stands : Stands w f numeral t rest
  pub nearest : Nearest numeral.minus (upper numeral) (lower numeral) x

-- the float of a numeral, as the grammar has it
abbrev pub float_of : Numeral → Float
float_of n = decimal n.minus (value_of 0 n.whole) (value_of 0 n.part) (length n.part)

near : (w f : ℕ) (W : w + f ≤ 15) (n : Numeral) (t rest : List ℕ) (x : Float) → Stands w f n t rest → x ≡ float_of n → Written w f t rest x
near w f W n t rest x h e =
    let a : value_of 0 n.whole < 1 * 10 ^ length n.whole = digits_few n.whole 0 h.digits_before in
    let b : value_of 0 n.part < 1 * 10 ^ length n.part = digits_few n.part 0 h.digits_after in
    let l : length n.part ≤ 15 = omega (arith, h.few_after) in
    record {
      numeral = n;
      stands = h;
      nearest = subst (Nearest n.minus (upper n) (lower n)) (sym e)
          (decimal_nearest n.minus (value_of 0 n.whole) (value_of 0 n.part) (length n.part)
          (dec_fits (value_of 0 n.whole) (value_of 0 n.part) (length n.whole) (length n.part) w f (omega arith) (omega arith) h.few_before h.few_after W) l);
    }

-- the text with its minus, or without
sign_off : (t : List ℕ) → t ≡ minus_if (starts minus_byte t) ++ cond (starts minus_byte t) (drop 1 t) t
sign_off t = go (starts minus_byte t) (starts_with minus_byte t)
  where
    go : (s : Bool) → (s ≡ true → t ≡ minus_byte ∷ drop 1 t) → t ≡ minus_if s ++ cond s (drop 1 t) t
    go true f = f refl
    go false f = refl

point_on : (l : List ℕ) → 1 ≤ length l → point_of l ≡ point_byte ∷ l
point_on [] h = absurd (omega arith)
point_on (d ∷ l) h = refl

together : (s : Bool) (a b c rest t u v : List ℕ) → t ≡ minus_if s ++ u → u ≡ a ++ v → v ≡ b ++ rest → b ≡ c → t ≡ (minus_if s ++ (a ++ c)) ++ rest
together s a b c rest t u v p q r e = rw (p, q, r, e, append_assoc, append_assoc)

module _ (w f : ℕ) (W : w + f ≤ 15) (t : List ℕ) (x : Float) (rest : List ℕ) where
  -- the text after the sign, and the sign
  module _ (s : Bool) (u : List ℕ) (T : t ≡ minus_if s ++ u) where
    first : {n c : ℕ} (v : List ℕ) → Ran w u n c v → u ≡ run u ++ v
    first v p = run_past u ∙ ap (λ (l : List ℕ). run u ++ l) (sym p.rest)

    after_nearest : (b : Bool) (n c : ℕ) (v : List ℕ) → Ran w u n c v → starts point_byte v ≡ b → after_whole b f s n v ≡ got x rest → Written w f t rest x
    after_nearest true n c v p e h = go (digits_of f (drop 1 v)) refl h
      where
        go : (r : Parse Digits) → digits_of f (drop 1 v) ≡ r → and_then r (with_part s n) ≡ got x rest → Written w f t rest x
        go (got (digits m k) z) e' h =
            let q = ran f (drop 1 v) m k z e' in
            let g = same_got (decimal s n m k) x z rest h in
            let ds = run (drop 1 v) in
            let left : rest ≡ past (drop 1 v) = g.1 ∙ q.rest in
            let on : v ≡ point_byte ∷ (ds ++ rest) = starts_with point_byte v e ∙ ap (λ (l : List ℕ). point_byte ∷ l) (run_past (drop 1 v) ∙ ap (λ (l : List ℕ). ds ++ l) (sym left)) in
            let a : n ≡ value_of 0 (run u) = p.value in
            let b : m ≡ value_of 0 ds = q.value in
            let c : k ≡ length ds = q.count in
            near w f W (record { minus = s; whole = run u; part = ds }) t rest x
            (record {
              text = together s (run u) (point_byte ∷ ds) (point_of ds) rest t u v T (first v p) on (sym (point_on ds q.some));
              digits_before = run_digits u;
              digits_after = run_digits (drop 1 v);
              some_before = p.some;
              few_before = p.few;
              few_after = q.few;
              no_digit = ap run left ∙ past_none (drop 1 v);
              no_point = no_digits ds q.some;
            })
            (g.0 ∙ cc)
        go wrong e' h = absurd (not_got x rest h)
    after_nearest false n c v p e h =
        let g = same_got (decimal s n 0 0) x v rest h in
        let a : n ≡ value_of 0 (run u) = p.value in
        near w f W (record { minus = s; whole = run u; part = [] }) t rest x
        (record {
          text = together s (run u) [] [] rest t u v T (first v p) (sym g.1) refl;
          digits_before = run_digits u;
          digits_after = tt;
          some_before = p.some;
          few_before = p.few;
          few_after = zero-le;
          no_digit = ap run (g.1 ∙ p.rest) ∙ past_none u;
          no_point = λ _. ap (starts point_byte) g.1 ∙ e;
        })
        (g.0 ∙ cc)

    unsigned_nearest : unsigned w f s u ≡ got x rest → Written w f t rest x
    unfolding unsigned
    unsigned_nearest = go (digits_of w u) refl
      where
        go : (r : Parse Digits) → digits_of w u ≡ r → and_then r (with_whole f s) ≡ got x rest → Written w f t rest x
        go (got (digits n c) v) e h = after_nearest (starts point_byte v) n c v (ran w u n c v e) refl h
        go wrong e h = absurd (not_got x rest h)

pub number_nearest : (w f : ℕ) → w + f ≤ 15 → (t : List ℕ) (x : Float) (rest : List ℕ) → number w f t ≡ got x rest → Written w f t rest x
unfolding number
number_nearest w f W t x rest h = unsigned_nearest w f W t x rest (starts minus_byte t) (cond (starts minus_byte t) (drop 1 t) t) (sign_off t) h

-- ---- and every numeral that stands there is read, to the end of it
not_minus : (d : ℕ) → Digit d → eqb d minus_byte ≡ false
not_minus d h = let a : 48 ≤ d = leb-true 48 d ((and-eq-true_iff (leb 48 d) (leb d 57)).0 h).0 in ne_eqb d 45 (λ e. omega arith)

part_read : (f : ℕ) (s : Bool) (n : ℕ) (part rest : List ℕ) → All Digit part → length part ≤ f → run rest ≡ [] → (part ≡ [] → starts point_byte rest ≡ false)
    → after_whole (starts point_byte (point_of part ++ rest)) f s n (point_of part ++ rest) ≡ got (decimal s n (value_of 0 part) (length part)) rest
part_read f s n [] rest d l e p = let q = p refl in rw q
part_read f s n (b ∷ part) rest d l e p = rw (reads f (b ∷ part) rest d e (omega arith) l)

point_run : (part rest : List ℕ) → run rest ≡ [] → run (point_of part ++ rest) ≡ []
point_run [] rest e = e
point_run (b ∷ part) rest e = refl

unsigned_read : (w f : ℕ) (n : Numeral) (t rest : List ℕ) → Stands w f n t rest → unsigned w f n.minus (n.whole ++ (point_of n.part ++ rest)) ≡ got (float_of n) rest
unfolding unsigned
unsigned_read w f n t rest h =
    rw (reads w n.whole (point_of n.part ++ rest) h.digits_before (point_run n.part rest h.no_digit) h.some_before h.few_before)
    (part_read f n.minus (value_of 0 n.whole) n.part rest h.digits_after h.few_after h.no_digit h.no_point)

signed_read : (w f : ℕ) (s : Bool) (whole : List ℕ) (u : List ℕ) → All Digit whole → 1 ≤ length whole → number w f (minus_if s ++ (whole ++ u)) ≡ unsigned w f s (whole ++ u)
unfolding number
signed_read w f true whole u d h = refl
signed_read w f false [] u d h = absurd (omega arith)
signed_read w f false (b ∷ whole) u d h = let e = not_minus b d.0 in rw e

pub number_read : (w f : ℕ) (n : Numeral) (t rest : List ℕ) → Stands w f n t rest → number w f t ≡ got (float_of n) rest
number_read w f n t rest h =
    ap (number w f) (h.text ∙ simp append_assoc)
    ∙ signed_read w f n.minus n.whole (point_of n.part ++ rest) h.digits_before h.some_before
    ∙ unsigned_read w f n t rest h

-- ---- what is left of a text after a number is an end of it: of each kind that the ends of a text share with it
module _ (P : List ℕ → Type 0) (tail : (b : ℕ) (t : List ℕ) → P (b ∷ t) → P t) where
  past_end : (t : List ℕ) → P t → P (past t)
  past_end [] p = p
  past_end (b ∷ t) p = go (is_digit b) (past_end t (tail b t p))
    where
      go : (d : Bool) → P (past t) → P (cond d (past t) (b ∷ t))
      go true q = q
      go false q = p

  pub dropped : (n : ℕ) (t : List ℕ) → P t → P (drop n t)
  dropped zero t p = p
  dropped (suc n) [] p = p
  dropped (suc n) (b ∷ t) p = dropped n t (tail b t p)

  digits_end : (limit : ℕ) (t : List ℕ) (d : Digits) (u : List ℕ) → digits_of limit t ≡ got d u → P t → P u
  digits_end limit t (digits v k) u e p = subst P (sym (ran limit t v k u e).rest) (past_end t p)

  after_end : (b : Bool) (f : ℕ) (s : Bool) (n : ℕ) (t : List ℕ) (x : Float) (rest : List ℕ) → after_whole b f s n t ≡ got x rest → P t → P rest
  after_end true f s n t x rest h p = go (digits_of f (drop 1 t)) refl h
    where
      go : (r : Parse Digits) → digits_of f (drop 1 t) ≡ r → and_then r (with_part s n) ≡ got x rest → P rest
      go (got (digits v k) z) e h = subst P (sym (same_got (decimal s n v k) x z rest h).1) (digits_end f (drop 1 t) (digits v k) z e (dropped 1 t p))
      go wrong e h = absurd (not_got x rest h)
  after_end false f s n t x rest h p = subst P (sym (same_got (decimal s n 0 0) x t rest h).1) p

  unsigned_end : (w f : ℕ) (s : Bool) (t : List ℕ) (x : Float) (rest : List ℕ) → unsigned w f s t ≡ got x rest → P t → P rest
  unfolding unsigned
  unsigned_end w f s t x rest h p = go (digits_of w t) refl h
    where
      go : (r : Parse Digits) → digits_of w t ≡ r → and_then r (with_whole f s) ≡ got x rest → P rest
      go (got (digits n c) u) e h = after_end (starts point_byte u) f s n u x rest h (digits_end w t (digits n c) u e p)
      go wrong e h = absurd (not_got x rest h)

  signless : (s : Bool) (t : List ℕ) → P t → P (cond s (drop 1 t) t)
  signless true t p = dropped 1 t p
  signless false t p = p

  pub number_end : (w f : ℕ) (t : List ℕ) (x : Float) (rest : List ℕ) → number w f t ≡ got x rest → P t → P rest
  unfolding number
  number_end w f t x rest h p = unsigned_end w f (starts minus_byte t) (cond (starts minus_byte t) (drop 1 t) t) x rest h (signless (starts minus_byte t) t p)

  -- where digits that f takes after a point are taken by g too, so is a number
  module _ (f g : ℕ) (D : (t : List ℕ) → P t → starts point_byte t ≡ true → (d : Digits) (u : List ℕ) → digits_of f (drop 1 t) ≡ got d u → digits_of g (drop 1 t) ≡ got d u) where
    after_by : (b s : Bool) (n : ℕ) (t : List ℕ) → starts point_byte t ≡ b → P t → (x : Float) (rest : List ℕ) → after_whole b f s n t ≡ got x rest → after_whole b g s n t ≡ got x rest
    after_by true s n t e p x rest i = go (digits_of f (drop 1 t)) refl i
      where
        go : (r : Parse Digits) → digits_of f (drop 1 t) ≡ r → and_then r (with_part s n) ≡ got x rest → and_then (digits_of g (drop 1 t)) (with_part s n) ≡ got x rest
        go (got d z) q i = ap (λ (r : Parse Digits). and_then r (with_part s n)) (D t p e d z q) ∙ i
        go wrong q i = absurd (not_got x rest i)
    after_by false s n t e p x rest i = i

    unsigned_by : (w : ℕ) (s : Bool) (t : List ℕ) → P t → (x : Float) (rest : List ℕ) → unsigned w f s t ≡ got x rest → unsigned w g s t ≡ got x rest
    unfolding unsigned
    unsigned_by w s t p x rest = go (digits_of w t) refl
      where
        go : (r : Parse Digits) → digits_of w t ≡ r → and_then r (with_whole f s) ≡ got x rest → and_then r (with_whole g s) ≡ got x rest
        go (got (digits n c) u) q i = after_by (starts point_byte u) s n u refl (digits_end w t (digits n c) u q p) x rest i
        go wrong q i = absurd (not_got x rest i)

    pub number_by : (w : ℕ) (t : List ℕ) → P t → (x : Float) (rest : List ℕ) → number w f t ≡ got x rest → number w g t ≡ got x rest
    unfolding number
    number_by w t p x rest i = unsigned_by w (starts minus_byte t) (cond (starts minus_byte t) (drop 1 t) t) (signless (starts minus_byte t) t p) x rest i

-- ---- more digits allowed after the point: what was read is read as before
pub again : (f : ℕ) {g : ℕ} (t : List ℕ) (v k : ℕ) (u : List ℕ) → Ran g t v k u → length (run t) ≤ f → digits_of f t ≡ got (digits v k) u
unfolding digits_of
again f t v k u r h =
    let a = r.value in
    let b = r.count in
    let c = r.rest in
    rw (le-leb 1 (length (run t)) r.some, le-leb (length (run t)) f h, a, b, c)

more : (f g : ℕ) → f ≤ g → (t : List ℕ) (d : Digits) (u : List ℕ) → digits_of f t ≡ got d u → digits_of g t ≡ got d u
more f g l t (digits v k) u e = let r = ran f t v k u e in again g t v k u r (le_trans r.few l)

pub number_more : (w f g : ℕ) → f ≤ g → (t : List ℕ) (x : Float) (rest : List ℕ) → number w f t ≡ got x rest → number w g t ≡ got x rest
number_more w f g l t = number_by (λ _. Unit {0}) (λ b t p. tt) f g (λ t p e d u i. more f g l (drop 1 t) d u i) w t tt

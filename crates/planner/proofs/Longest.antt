-- HOW LONG AN ANSWER IS AT MOST: what is seen, in the rooms that the program lends, and a refusal of any number. `answer` and `answer_three` promise the same of every text.
-- The polygons seen are distinct polygons of a sound site, so that they have no more points together than the site has.
-- Assumes nothing.
use mathlib.Core.Bool.{Bool, true, false, cond}
use mathlib.Core.List.{List, [], ◌∷◌}
use native.Mathlib.Nat.{mul-le-mul_right}
use Prim.Native.Nat.{ℕ, zero, suc, ◌+◌, ◌*◌, ◌^◌, ◌≤◌}
use native.Mathlib.Omega.{arith}
use lib.Dec.{ltb}
use lib.ListN.{length, take, length-append, length-take}
use lib.Ieee.{Float}
use Rattle.lists.specs.Lists.{sum_over}
use Rattle.site.specs.declared.Site.{Site}
use Rattle.site.specs.Tables.{Tables, len_of}
use Rattle.site.proofs.Shares.{lens_most}
use Rattle.visibility.proofs.Ids.{Distinct}
use Rattle.wkt_print.specs.Decimal.{width_from, width, whole_text}
use Rattle.wkt_print.specs.Lines.{points_of, polygon_text, refused_text}
use Rattle.wkt_print.proofs.Widths.{length_fixed}
use Rattle.planner.specs.Answer.{lines_of, seen_text, point_bytes, longest}
use Rattle.planner.proofs.Lines.{outline_length, lines_sum}

-- ---- a refusal
either : (b : Bool) (x y m : ℕ) → x ≤ m → y ≤ m → cond b x y ≤ m
either true x y m h g = h
either false x y m h g = g

width_few : (f w n : ℕ) → width_from f w n ≤ w + f
width_few zero w n = omega arith
width_few (suc f) w n = either (ltb n (10 ^ w)) w (width_from f (suc w) n) (w + suc f) (omega arith) (let h = width_few f (suc w) n in omega arith)

pub refused_length : (places n : ℕ) → length (refused_text n) ≤ longest places
refused_length places n = omega (arith, length_fixed (width n) n, width_few 10 1 n, length-append (whole_text n) (10 ∷ []))

-- ---- what is seen
take_few : {A : Type 0} (n m : ℕ) (l : List A) → length l ≤ m → length (take n l) ≤ m
take_few n m l h = simp length-take (omega arith)

-- the m ids in front are distinct polygons of a sound site of 512 points at most
pub seen_length : (places n m : ℕ) (site : Site) (t : Tables) (outline : List Float) (visible : List ℕ) → Distinct site t (take m visible) → length t.points ≤ 1024 → length outline ≤ 4096 → length visible ≤ 64
    → length (seen_text places n m t.points t.polygons outline visible) ≤ longest places
unfolding seen_text
seen_length places n m site t outline visible d p o v =
    let a = outline_length places (take (2 * n) outline) (take_few (2 * n) 4096 outline o) in
    let b = lines_sum places t.points t.polygons (take m visible) in
    let e : sum_over (len_of t.polygons) (take m visible) ≤ 512 = omega (arith, lens_most site t d.sound (take m visible) d.once d.named, d.sound.points_long) in
    let f = mul-le-mul_right (point_bytes places) e in
    let g = mul-le-mul_right (14 + point_bytes places) (take_few m 64 visible v) in
    omega (arith, a, b, f, g, length-append (polygon_text places (points_of (take (2 * n) outline))) (lines_of places t.points t.polygons (take m visible)))

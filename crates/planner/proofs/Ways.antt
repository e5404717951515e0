-- Each way through the answer: what is printed on it is the text that specs/Answer.antt gives.
-- Assumes nothing.
use Rattle.std.proofs.Common.{Err, Result, Ok}
use mathlib.Core.Path.{◌≡◌, sym, ap, ◌∙◌, subst}
use mathlib.Core.List.{List}
use Prim.Native.Nat.{ℕ, ◌+◌, ◌*◌, ◌≤◌, min}
use native.Mathlib.Omega.{arith}
use lib.ListN.{length, take}
use lib.Seq.{take-append_seam}
use lib.Ieee.{Float}
use Rattle.num.specs.Ops.{zero_f}
use Rattle.lists.specs.Parts.{part, padded}
use Rattle.lists.proofs.Parts.{part_first, part_held}
use Rattle.geom.specs.Vec.{vec}
use Rattle.site.specs.declared.Site.{Site}
use Rattle.site.specs.Tables.{Tables}
use Rattle.build.specs.Outcome as build
use Rattle.cone.specs.declared.ViewCone.{ViewCone}
use Rattle.cone.specs.Cone.{full_of}
use Rattle.room.specs.declared.Rooms.{Rooms}
use Rattle.stages.specs.declared.Shown.{Shown}
use Rattle.visibility.specs.Beside.{tenth}
use Rattle.view.specs.Outcome.{Lent, Outcome, out}
use Rattle.visibility.specs.Outcome.{outcome}
use Rattle.visibility.proofs.Ids.{Distinct, visible_named}
use Rattle.wkt.specs.declared.Input.{Input}
use Rattle.wkt.specs.Parse.{Parse}
use Rattle.wkt.specs.Grammar.{Text}
use Rattle.wkt.specs.Cursor.{polygons_in, points_in}
use Rattle.wkt.specs.Answer.{text_in, input_of, rings_of, all_coords, lengths, total, Says}
use Rattle.wkt.proofs.Stored.{length_all_coords, length_lengths, counts, limited, all_stored}
use Rattle.wkt_print.specs.Decimal.{Printed}
use Rattle.wkt_print.specs.Lines.{points_of, polygon_text, refused_text}
use Rattle.wkt_print.proofs.Printing.{say, then}
use Rattle.planner.specs.Rooms.{rooms, site_room, work_room}
use Rattle.planner.specs.Answer.{lines_of, seen_text, shown_by, outline_of, shown_text, built_by, site_of, planned_text, answer_by, answer_of, longest, Told}
use Rattle.planner.proofs.Longest.{refused_length, seen_length}
use Rattle.refusal.specs.declared.Refusal.{Refusal}
use Rattle.refusal.specs.Numbers.{number_of}

-- ---- printed from the start
pub from_zero : (r n : ℕ) → r ≡ 0 + n → r ≡ n
from_zero r n h = omega arith

told : {l l' : List ℕ} {r : ℕ} (places : ℕ) (t t' : List ℕ) → t ≡ t' → length t ≤ longest places → Printed l 0 t l' r → Told places l t' l' r
told places t t' e h p =
    let x = p.next in
    record { printed = say e p; fits = omega arith }

pub tell : {places : ℕ} {l l' t t' : List ℕ} {r : ℕ} → t ≡ t' → Told places l t l' r → Told places l t' l' r
tell e p = record { printed = say e p.printed; fits = p.fits }

-- ---- fronts of slices
module _ {A : Type 0} where
  pub front : (n e : ℕ) (l : List A) → e ≡ min n (length l) → part 0 e l ≡ take n l
  front n e l h =
      let z : 0 ≡ min 0 (length l) = omega arith in
      part_held l 0 n 0 e z h ∙ part_first n l

  pub front_padded : (z : A) (n : ℕ) (l : List A) (e : ℕ) → e ≡ length l → part 0 e (padded z n l) ≡ l
  front_padded z n l e h = part_first e (padded z n l) ∙ ap (λ (i : ℕ). take i (padded z n l)) h ∙ take-append_seam l _

-- ---- the outline and the polygons seen
pub seen_way : (places n m : ℕ) (points : List Float) (polygons : List ℕ) (outline : List Float) (visible : List ℕ) (e k : ℕ) {l l1 l2 : List ℕ} {at r : ℕ}
    → e ≡ min (2 * n) (length outline) → k ≡ min m (length visible)
    → Printed l 0 (polygon_text places (points_of (part 0 e outline))) l1 at → Printed l1 at (lines_of places points polygons (part 0 k visible)) l2 r
    → Printed l 0 (seen_text places n m points polygons outline visible) l2 r
unfolding seen_text
seen_way places n m points polygons outline visible e k he hk p q =
    then
    (say (ap (λ (s : List Float). polygon_text places (points_of s)) (front (2 * n) e outline he)) p)
    (say (ap (λ (s : List ℕ). lines_of places points polygons s) (front m k visible hk)) q)

-- ---- the call of an outline
module _ (places : ℕ) (site : Site) (t : Tables) (x y range : Float) (c : ViewCone) (k : Rooms) (l : Lent) (hc : c ≡ full_of (vec x y) range) (hk : k ≡ rooms) (hl : l ≡ work_room) where
  outline_is : outcome site t c tenth 0 k l ≡ outline_of site t x y range
  unfolding outline_of
  outline_is = ap (λ (d : ViewCone). outcome site t d tenth 0 k l) hc ∙ ap (λ (j : Rooms). outcome site t (full_of (vec x y) range) tenth 0 j l) hk ∙ ap (λ (j : Lent). outcome site t (full_of (vec x y) range) tenth 0 rooms j) hl

  shown_way : (a b : Result Shown Refusal) (left : Lent) → out a left ≡ outcome site t c tenth 0 k l → a ≡ b
      → shown_by places b t.points t.polygons left.outline left.visible ≡ shown_text places site t x y range
  unfolding shown_text
  shown_way a b left p h =
      ap (λ (d : Result Shown Refusal). shown_by places d t.points t.polygons left.outline left.visible) (sym h)
      ∙ ap (λ (o : Outcome). shown_by places o.answer t.points t.polygons o.left.outline o.left.visible) (p ∙ outline_is)

  -- the ids seen are distinct polygons of a sound site
  seen_named : (a : Result Shown Refusal) (s : Shown) (left : Lent) → out a left ≡ outcome site t c tenth 0 k l → a ≡ Ok s → Distinct site t (take s.visible left.visible)
  seen_named a s left p h =
      subst (λ (o : Outcome). Distinct site t (take s.visible o.left.visible)) (sym p)
      (visible_named site t c tenth 0 k l s (ap (λ (o : Outcome). o.answer) (sym p) ∙ h))

  pub view_seen : (a : Result Shown Refusal) (s : Shown) (left : Lent) {o o' : List ℕ} {r : ℕ} → out a left ≡ outcome site t c tenth 0 k l → a ≡ Ok s
      → length t.points ≤ 1024 → length left.outline ≤ 4096 → length left.visible ≤ 64
      → Printed o 0 (seen_text places s.points s.visible t.points t.polygons left.outline left.visible) o' r → Told places o (shown_text places site t x y range) o' r
  view_seen a s left p h hp ho hv q =
      told places (seen_text places s.points s.visible t.points t.polygons left.outline left.visible) (shown_text places site t x y range) (shown_way a (Ok s) left p h)
      (seen_length places s.points s.visible site t left.outline left.visible (seen_named a s left p h) hp ho hv) q

  pub view_refused : (a : Result Shown Refusal) (n : Refusal) (left : Lent) {o o' : List ℕ} {r : ℕ} → out a left ≡ outcome site t c tenth 0 k l → a ≡ Err n
      → Printed o 0 (refused_text (number_of n)) o' r → Told places o (shown_text places site t x y range) o' r
  view_refused a n left p h q = told places (refused_text (number_of n)) (shown_text places site t x y range) (shown_way a (Err n) left p h) (refused_length places (number_of n)) q

-- ---- the call of building
module _ (places : ℕ) (x y range : Float) (given : List Float) (lens : List ℕ) (l : Tables) (hl : l ≡ site_room) where
  site_is : build.outcome zero_f zero_f given lens l ≡ site_of given lens
  unfolding site_of
  site_is = ap (λ (j : Tables). build.outcome zero_f zero_f given lens j) hl

  pub built_way : (a b : Result Site Refusal) (left : Tables) → build.Does (build.outcome zero_f zero_f given lens l) a left → a ≡ b → built_by places b left x y range ≡ planned_text places x y range given lens
  unfolding planned_text
  built_way a b left d h =
      ap (λ (m : Result Site Refusal). built_by places m left x y range) (sym h ∙ d.says)
      ∙ ap (λ (j : Tables). built_by places (build.outcome zero_f zero_f given lens l).answer j x y range) d.leaves
      ∙ ap (λ (o : build.Outcome). built_by places o.answer o.left x y range) site_is

  pub plan_refused : (a : Result Site Refusal) (n : Refusal) (left : Tables) {o o' : List ℕ} {r : ℕ} → build.Does (build.outcome zero_f zero_f given lens l) a left → a ≡ Err n
      → Printed o 0 (refused_text (number_of n)) o' r → Told places o (planned_text places x y range given lens) o' r
  plan_refused a n left d h q = told places (refused_text (number_of n)) (planned_text places x y range given lens) (built_way a (Err n) left d h) (refused_length places (number_of n)) q

-- ---- the text
pub read_counts : (t : Parse Text) (i : Input) → input_of t ≡ Ok i → (i.polygons ≡ length (rings_of t)) × (i.points ≡ total (rings_of t))
read_counts t i e = (sym (ap polygons_in e) ∙ (counts t).0, sym (ap points_in e) ∙ (counts t).1)

module _ (text : List ℕ) (p l : ℕ) (a : Result Input Refusal) (pts : List Float) (lens : List ℕ) (s : Says text p l a pts lens) where
  refused_way : (places : ℕ) (n : Refusal) → a ≡ Err n → refused_text (number_of n) ≡ answer_of places text
  unfolding answer_of
  refused_way places n h = ap (λ (i : Result Input Refusal). answer_by places i (rings_of (text_in text))) (sym h ∙ s.answer)

  pub answer_refused : (places : ℕ) (n : Refusal) {o o' : List ℕ} {r : ℕ} → a ≡ Err n → Printed o 0 (refused_text (number_of n)) o' r → Told places o (answer_of places text) o' r
  answer_refused places n h q = told places (refused_text (number_of n)) (answer_of places text) (refused_way places n h) (refused_length places (number_of n)) q

  module _ (i : Input) (h : a ≡ Ok i) where
    input_is : input_of (text_in text) ≡ Ok i
    input_is = sym s.answer ∙ h

    pub points_few : i.points ≤ 512
    points_few = let e = (read_counts (text_in text) i input_is).1 in let f = (limited (text_in text)).points in omega arith

    pub polygons_few : i.polygons ≤ 64
    polygons_few = let e = (read_counts (text_in text) i input_is).0 in let f = (limited (text_in text)).polygons in omega arith

    pub read_way : (places : ℕ) → 1024 ≤ p → 64 ≤ l → planned_text places i.x i.y i.range (part 0 (2 * i.points) pts) (part 0 i.polygons lens) ≡ answer_of places text
    unfolding answer_of
    read_way places hp hl =
        let rs = rings_of (text_in text) in
        let c = read_counts (text_in text) i input_is in
        let st = all_stored text p l a pts lens hp hl s in
        let e : 2 * i.points ≡ length (all_coords rs) = let f = c.1 in omega (arith, length_all_coords rs) in
        let g : i.polygons ≡ length (lengths rs) = c.0 ∙ sym (length_lengths rs) in
        let u : part 0 (2 * i.points) pts ≡ all_coords rs = ap (part 0 (2 * i.points)) st.0 ∙ front_padded zero_f p (all_coords rs) (2 * i.points) e in
        let v : part 0 i.polygons lens ≡ lengths rs = ap (part 0 i.polygons) st.1 ∙ front_padded {A = ℕ} 0 l (lengths rs) i.polygons g in
        ap (λ (q : List Float). planned_text places i.x i.y i.range q (part 0 i.polygons lens)) u
        ∙ ap (λ (q : List ℕ). planned_text places i.x i.y i.range (all_coords rs) q) v
        ∙ ap (λ (z : Result Input Refusal). answer_by places z rs) (sym input_is)

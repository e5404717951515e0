-- The tests, and from what they and the rest leave to the outcome: the ways through `admit` and `compute_visibility`. Assumes nothing.
use Rattle.std.proofs.Common.{◌≡◌, ℕ, ◌<◌, ◌≤◌, Bool, true, false, cond, leb, ltb, length, refl, ap, ◌∙◌, Result, Ok, Err, lt-ltb, le-ltb, le-leb, ltb-false}
use borrow.Author.Tests.{lt-leb, leb-true}
use lib.Ieee.{Float}
use Rattle.lists.proofs.AllTo.{both}
use Rattle.refusal.specs.declared.Refusal.{Refusal}
use Rattle.refusal.specs.declared.Refusal.TheVariants.{OutsideDomain, Unsound, FewStamps}
use Rattle.site.specs.declared.Site.{Site}
use Rattle.site.specs.Tables.{Tables}
use Rattle.site.specs.Domain.{load_of}
use Rattle.site.specs.Soundness.{sound_of}
use Rattle.scene.specs.Asked.{asked}
use Rattle.cone.specs.declared.ViewCone.{ViewCone}
use Rattle.room.specs.declared.Rooms.{Rooms}
use Rattle.view.specs.Outcome.{Lent, Outcome, out, seen_from_of}
use Rattle.cone.specs.Domain.{cone_in_domain, load_cone_of}
use Rattle.visibility.specs.Asked.{asked_in_domain, admit_of}
use Rattle.visibility.specs.Outcome.{outcome}

-- ---- `admit`
-- the three tests, by what they come to: sound, in the domain, and too few marks
abbrev pub tests : Bool → Bool → Bool → Result (Unit {0}) Refusal
tests s b m = cond s (cond b (cond m (Err FewStamps) (Ok tt)) (Err OutsideDomain)) (Err Unsound)

module _ (site : Site) (t : Tables) (c : ViewCone) (mode marks : ℕ) where
  pub admit_six : sound_of site t ≡ false → Err Unsound ≡ admit_of site t c mode marks
  unfolding admit_of asked
  admit_six e = rw e

  pub admit_one : sound_of site t ≡ true → cone_in_domain c ≡ false → Err OutsideDomain ≡ admit_of site t c mode marks
  unfolding admit_of asked
  admit_one e f = rw (e, f)

  pub admit_mode : sound_of site t ≡ true → cone_in_domain c ≡ true → 1 < mode → Err OutsideDomain ≡ admit_of site t c mode marks
  unfolding admit_of asked
  admit_mode e f h = rw (e, f, lt-leb mode 1 h)

  pub admit_seven : sound_of site t ≡ true → cone_in_domain c ≡ true → mode ≤ 1 → marks < site.polygons → Err FewStamps ≡ admit_of site t c mode marks
  unfolding admit_of asked
  admit_seven e f m h = rw (e, f, le-leb mode 1 m, lt-ltb marks site.polygons h)

  pub admit_none : sound_of site t ≡ true → cone_in_domain c ≡ true → mode ≤ 1 → site.polygons ≤ marks → Ok tt ≡ admit_of site t c mode marks
  unfolding admit_of asked
  admit_none e f m h = rw (e, f, le-leb mode 1 m, le-ltb marks site.polygons h)

  sound_by : (s b m : Bool) → sound_of site t ≡ s → tests s b m ≡ Ok tt → sound_of site t ≡ true
  sound_by true b m e h = e
  sound_by false b m e h = cc

  -- what is admitted is sound
  pub admitted_sound : admit_of site t c mode marks ≡ Ok tt → sound_of site t ≡ true
  unfolding admit_of asked
  admitted_sound e = sound_by _ (asked_in_domain c mode) (ltb marks site.polygons) refl e

  inside_by : (s b m : Bool) → asked_in_domain c mode ≡ b → tests s b m ≡ Ok tt → asked_in_domain c mode ≡ true
  inside_by true true m e z = e
  inside_by true false m e z = cc
  inside_by false b m e z = cc

  -- and in the domain, with a mode that is 0 or 1
  pub admitted_asked : admit_of site t c mode marks ≡ Ok tt → asked_in_domain c mode ≡ true
  unfolding admit_of asked
  admitted_asked z = inside_by (sound_of site t) _ (ltb marks site.polygons) refl z

  pub admitted_inside : admit_of site t c mode marks ≡ Ok tt → cone_in_domain c ≡ true
  admitted_inside z = (both (cone_in_domain c) (leb mode 1) (admitted_asked z)).0

  pub admitted_mode : admit_of site t c mode marks ≡ Ok tt → mode ≤ 1
  admitted_mode z = leb-true mode 1 (both (cone_in_domain c) (leb mode 1) (admitted_asked z)).1

  marks_by : (s b m : Bool) → ltb marks site.polygons ≡ m → tests s b m ≡ Ok tt → site.polygons ≤ marks
  marks_by true true true e z = cc
  marks_by true true false e z = ltb-false marks site.polygons e
  marks_by true false m e z = cc
  marks_by false b m e z = cc

  -- and has a mark for each polygon
  pub admitted_marked : admit_of site t c mode marks ≡ Ok tt → site.polygons ≤ marks
  unfolding admit_of asked
  admitted_marked z = marks_by (sound_of site t) (asked_in_domain c mode) _ refl z

-- ---- `compute_visibility`
module _ (site : Site) (t : Tables) (c : ViewCone) (tolerance : Float) (mode : ℕ) (k : Rooms) (l : Lent) {n : Result (Unit {0}) Refusal} (is : n ≡ admit_of site t c mode (length l.marks)) where
  pub refused_is : {r : Refusal} → n ≡ Err r → out (Err r) l ≡ outcome site t c tolerance mode k l
  unfolding outcome
  refused_is h = rw (← is, h)

  seen_outcome : n ≡ Ok tt → seen_from_of site t (load_cone_of c) (load_of tolerance) mode k l ≡ outcome site t c tolerance mode k l
  unfolding outcome
  seen_outcome h = rw (← is, h)

  pub loaded_is : {x : ViewCone} {y : Float} {o : Outcome} → x ≡ load_cone_of c → y ≡ load_of tolerance → o ≡ seen_from_of site t x y mode k l → n ≡ Ok tt → o ≡ outcome site t c tolerance mode k l
  loaded_is {x} {y} hx hy e z =
      e ∙ ap (λ (q : ViewCone). seen_from_of site t q y mode k l) hx ∙ ap (λ (q : Float). seen_from_of site t (load_cone_of c) q mode k l) hy ∙ seen_outcome z

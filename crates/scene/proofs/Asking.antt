-- A question's tests, by what `admit` answers: an error is the refusal, and without one the answer is let through. Assumes nothing.
use Rattle.std.proofs.Common.{◌≡◌, refl, Bool, true, false, cond, Result, Ok, Err}
use Rattle.refusal.specs.declared.Refusal.{Refusal}
use Rattle.refusal.specs.declared.Refusal.TheVariants.{OutsideDomain, Unsound}
use Rattle.site.specs.declared.Site.{Site}
use Rattle.site.specs.Tables.{Tables}
use Rattle.site.specs.Soundness.{sound_of}
use Rattle.scene.specs.Asked.{asked, admit_of}

-- the two tests, by what they come to
abbrev pub tests : Bool → Bool → Result (Unit {0}) Refusal
tests s b = cond s (cond b (Ok tt) (Err OutsideDomain)) (Err Unsound)

module _ (site : Site) (t : Tables) (inside : Bool) where
  -- `admit` is the order of its two tests
  pub admit_is : (s b : Bool) → s ≡ sound_of site t → b ≡ inside → tests s b ≡ admit_of site t inside
  unfolding admit_of asked
  admit_is s b e h = rw (e, h)

  sound_by : (s b : Bool) → sound_of site t ≡ s → tests s b ≡ Ok tt → sound_of site t ≡ true
  sound_by true b e h = e
  sound_by false b e h = cc

  -- what is admitted is sound
  pub admitted_sound : {r : Result (Unit {0}) Refusal} → r ≡ admit_of site t inside → r ≡ Ok tt → sound_of site t ≡ true
  unfolding admit_of asked
  admitted_sound e h = sound_by _ inside refl (rw e at h)

  -- what is let through is the answer
  pub answered : {A : Type 0} (refuse : Refusal → A) (a : A) → sound_of site t ≡ true → inside ≡ true → asked refuse site t inside a ≡ a
  unfolding asked
  answered refuse a s i = rw (s, i)

  module _ {A : Type 0} (refuse : Refusal → A) where
    refused_by : (s b : Bool) (a : A) (e : Refusal) → tests s b ≡ Err e → refuse e ≡ cond s (cond b a (refuse OutsideDomain)) (refuse Unsound)
    refused_by true true a e h = cc
    refused_by true false a e h = let k : OutsideDomain ≡ e = cc in rw k
    refused_by false b a e h = let k : Unsound ≡ e = cc in rw k

    pub refused : {r : Result (Unit {0}) Refusal} (a : A) {e : Refusal} → r ≡ admit_of site t inside → r ≡ Err e → refuse e ≡ asked refuse site t inside a
    unfolding admit_of asked
    refused a h k = refused_by (sound_of site t) inside a _ (rw h at k)

    admitted_by : (s b : Bool) (a v : A) → tests s b ≡ Ok tt → v ≡ a → v ≡ cond s (cond b a (refuse OutsideDomain)) (refuse Unsound)
    admitted_by true true a v k h = h
    admitted_by true false a v k h = cc
    admitted_by false b a v k h = cc

    pub admitted : {r : Result (Unit {0}) Refusal} (a : A) {v : A} → r ≡ admit_of site t inside → r ≡ Ok tt → v ≡ a → v ≡ asked refuse site t inside a
    unfolding admit_of asked
    admitted a e k h = admitted_by (sound_of site t) inside a _ (rw e at k) h

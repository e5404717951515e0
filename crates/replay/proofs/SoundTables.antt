-- Tables that were built with the status 0 are sound. Assumes nothing.
use Rattle.std.proofs.Common.{◌≡◌, ℕ, ◌+◌, ◌*◌, ◌<◌, Bool, true, false, cond, ◌&&◌, ltb, leb, List, length, refl, arith, ltb-true, leb-true, Option, Err, Ok}
use mathlib.Core.Bool.{and-eq-true_iff}
use Rattle.lists.specs.Lists.{listed}
use Rattle.lists.specs.Parts.{padded}
use Rattle.grid.specs.Entries.{SoundGrid}
use Rattle.tables.specs.Tables.{Outcome, fits, outcome_of, items_of, cell_start}
use Rattle.tables.proofs.BuiltTables.{built_sound}
use Rattle.probe.specs.Numbers.{Builds}
use Rattle.grid.specs.declared.CellRange.{CellRange}
use Rattle.refusal.specs.declared.Refusal.TheVariants.{NoTableRoom}
use Rattle.refusal.specs.Numbers.{status_of}

module _ (span : ℕ → Option CellRange) (n cols rows : ℕ) (starts items : List ℕ) where
  -- the outcome, by whether the tables fit
  abbrev by : Bool → Outcome
  by b =
      cond b
      (record { answer = Ok (length (items_of span n cols (cols * rows))); starts = padded 0 (length starts) (listed (cell_start span n cols) (cols * rows + 1)); items = padded 0 (length items) (items_of span n cols (cols * rows)) })
      (record { answer = Err NoTableRoom; starts = starts; items = items })

  sound_by : (b : Bool) (status : ℕ) (s i : List ℕ) → fits span n cols (cols * rows) (length starts) (length items) ≡ b → 0 < cols → 0 < rows
      → status ≡ status_of (by b).answer → s ≡ (by b).starts → i ≡ (by b).items → status ≡ 0 → SoundGrid cols rows s i
  sound_by true status s i f p q a e h z =
      let w = (and-eq-true_iff (ltb (cols * rows) (length starts)) (leb (length (items_of span n cols (cols * rows))) (length items) && leb (length (items_of span n cols (cols * rows))) 4294967295)).0 f in
      let v = (and-eq-true_iff (leb (length (items_of span n cols (cols * rows))) (length items)) (leb (length (items_of span n cols (cols * rows))) 4294967295)).0 w.1 in
      rw (e, h) (built_sound span n cols rows (length starts) (length items) (ltb-true _ _ w.0) (leb-true _ _ v.0) p q)
  sound_by false status s i f p q a e h z = absurd (omega (arith, a, z))

  pub sound_built : (status count : ℕ) (s i : List ℕ) → 0 < cols → 0 < rows → Builds (outcome_of span n cols (cols * rows) starts items) status s i count
      → status ≡ 0 → SoundGrid cols rows s i
  sound_built status count s i p q d z =
      sound_by (fits span n cols (cols * rows) (length starts) (length items)) status s i refl p q d.status_is d.starts_are d.items_are z

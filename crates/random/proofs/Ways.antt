-- The three ways through `random`, and the fronts of its two lists as the building reads them. Assumes nothing.
use Rattle.std.proofs.Common.{◌≡◌, ℕ, ◌*◌, ◌<◌, ◌≤◌, true, false, ◌&&◌, List, length, take, sym, ap, ◌∙◌, arith, le-ltb, lt-ltb, Err, Result}
use lib.Seq.{sets, length-sets}
use lib.Ieee.{Float}
use Rattle.lists.specs.Lists.{sum_to}
use Rattle.lists.proofs.Joined.{length_listed}
use Rattle.lists.proofs.Parts.{laid}
use Rattle.site.specs.Tables.{Tables}
use Rattle.build.specs.Outcome as building
use Rattle.random.specs.declared.SceneConfig.{SceneConfig}
use Rattle.random.specs.Draws.{len_at, points_of, lens_of, Drawn}
use Rattle.random.specs.Outcome.{in_random_size, outcome}
use Rattle.random.proofs.Drawing.{points_length}
use Rattle.refusal.specs.declared.Refusal.{Refusal}
use Rattle.refusal.specs.declared.Refusal.TheVariants.{OutsideDomain, TooMany}
use Rattle.site.specs.declared.Site.{Site}

-- a list stored from the front on, read back
front : {A : Type 0} (l xs : List A) (n : ℕ) {k : List A} → k ≡ sets l 0 xs → length xs ≡ n → n ≤ length k → take n k ≡ xs
front l xs n {k} e f h =
    let m : length k ≡ length l = ap length e ∙ length-sets l 0 xs in
    rw (← f, e) (laid l 0 xs (omega arith))

module _ (config : SceneConfig) where
  pub length_points : length (points_of config) ≡ 2 * sum_to (len_at config) config.polygon_count
  unfolding points_of
  length_points = points_length config config.polygon_count

  pub length_lens : length (lens_of config) ≡ config.polygon_count
  unfolding lens_of
  length_lens = length_listed (len_at config) config.polygon_count

  module _ {r : ℕ} {g₀ g : List Float} {l₀ l : List ℕ} (d : Drawn config r g₀ g l₀ l) where
    pub drawn_points : 2 * r ≤ length g → take (2 * r) g ≡ points_of config
    drawn_points h = front g₀ (points_of config) (2 * r) d.points_are (length_points ∙ ap (λ (n : ℕ). 2 * n) (sym d.count_is)) h

    pub drawn_lens : config.polygon_count ≤ length l → take config.polygon_count l ≡ lens_of config
    drawn_lens h = front l₀ (lens_of config) config.polygon_count d.lens_are length_lens h

  module _ (t : Tables) where
    pub too_many : 4096 < config.polygon_count → building.Does (outcome config t) (Err TooMany) t
    unfolding outcome
    too_many h =
        let e = lt-ltb 4096 config.polygon_count h in
        record { says = rw e; leaves = rw e }

    pub too_large : config.polygon_count ≤ 4096 → (in_random_size config.width && in_random_size config.height) ≡ false → building.Does (outcome config t) (Err OutsideDomain) t
    unfolding outcome
    too_large h q =
        let e = le-ltb 4096 config.polygon_count h in
        record { says = rw (e, q); leaves = rw (e, q) }

    pub made : {given : List Float} {lens : List ℕ} {r : (Result Site Refusal)} {left : Tables} → config.polygon_count ≤ 4096 → (in_random_size config.width && in_random_size config.height) ≡ true
        → given ≡ points_of config → lens ≡ lens_of config → building.Does (building.outcome config.width config.height given lens t) r left → building.Does (outcome config t) r left
    unfolding outcome
    made {given} {lens} {r} {left} h q e f d =
        let n = le-ltb 4096 config.polygon_count h in
        rw (n, q, ← e, ← f) d

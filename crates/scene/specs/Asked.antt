-- The tests that every question makes first, and their order. Document 01, "Refusal numbers": "6, 1, 7, 8 for questions". Definitions only.
use Rattle.std.specs.Prelude.{ℕ, Bool, not, ◌&&◌, cond, leb, Float, Result, Ok, Err}
use Rattle.std.specs.Float.Ieee.{is_nan}
use Rattle.geom.specs.declared.Vec2.{Vec2}
use Rattle.site.specs.declared.Site.{Site}
use Rattle.site.specs.Tables.{Tables}
use Rattle.site.specs.Domain.{point_in_domain}
use Rattle.site.specs.Soundness.{sound_of}
use Rattle.refusal.specs.declared.Refusal.{Refusal}
use Rattle.refusal.specs.declared.Refusal.TheVariants.{OutsideDomain, Unsound}

-- a question whose numbers are `inside` the domain or not: 6 for unsound tables, then 1; without either, what it asks for. `refuse` makes an answer of a refusal
unfoldable pub asked : {A : Type 0} → (Refusal → A) → Site → Tables → Bool → A → A
asked refuse site t inside answer = cond (sound_of site t) (cond inside answer (refuse OutsideDomain)) (refuse Unsound)

-- the tests alone
unfoldable pub admit_of : Site → Tables → Bool → Result (Unit {0}) Refusal
admit_of site t inside = asked Err site t inside (Ok tt)

-- "Domain": origins from -1,000,000 to 1,000,000; "ray direction components finite, -1,000,000 to 1,000,000; ray length not NaN". Document 02, Q-3: "a mode other than
-- 0 or 1 is refused as 1"
unfoldable pub ray_in_domain : Vec2 → Vec2 → Float → ℕ → Bool
ray_in_domain o d len mode = point_in_domain o && point_in_domain d && not (is_nan len) && leb mode 1

-- What is asked of an outline call before anything else: the tests 6, 1 and 7, in their order. Document 01, "Refusal numbers"; the cone's domain is
-- specs/Domain.antt of crate `cone`. Document 02, Q-3: the mode. Definitions only.
use Rattle.std.specs.Prelude.{Bool, ◌&&◌, cond, ℕ, leb, ltb, Result, Ok, Err}
use Rattle.refusal.specs.declared.Refusal.{Refusal}
use Rattle.refusal.specs.declared.Refusal.TheVariants.{FewStamps}
use Rattle.site.specs.declared.Site.{Site}
use Rattle.site.specs.Tables.{Tables}
use Rattle.scene.specs.Asked.{asked}
use Rattle.cone.specs.declared.ViewCone.{ViewCone}
use Rattle.cone.specs.Domain.{cone_in_domain}

-- what test 1 asks: the cone is inside the domain, and the mode is 0 or 1 (document 02, Q-3: "a mode other than 0 or 1 is refused as 1")
abbrev pub asked_in_domain : ViewCone → ℕ → Bool
asked_in_domain c mode = cone_in_domain c && leb mode 1

-- the tests alone: `asked` has 6 and 1, and then comes 7
unfoldable pub admit_of : Site → Tables → ViewCone → ℕ → ℕ → Result (Unit {0}) Refusal
admit_of site t c mode marks = asked Err site t (asked_in_domain c mode) (cond (ltb marks site.polygons) (Err FewStamps) (Ok tt))

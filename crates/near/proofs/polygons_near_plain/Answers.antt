-- `near::polygons_near_plain` meets its contract. Assumes nothing.
use mathlib.Core.Path.{sym, ◌∙◌}
use Rattle.near.proofs.Ways.{plain_gives, unsound, outside, asked}
use Rattle.near.proofs.polygons_near_plain.Goals as goal

pub returns-then-not-is_sound_plain : goal.returns-then-not-is_sound_plain
returns-then-not-is_sound_plain c = unsound _ _ _ _ _ (sym c.is_sound_plain.ensures ∙ c.if-not-is_sound_plain.true)

pub returns-then-not-box_in_domain : goal.returns-then-not-box_in_domain
returns-then-not-box_in_domain c = outside _ _ _ _ _ (sym c.is_sound_plain.ensures ∙ c.if-not-is_sound_plain.false) (sym c.box_in_domain.ensures ∙ c.if-not-box_in_domain.true)

pub box_query-requires : goal.box_query-requires
box_query-requires c = plain_gives _ _ _ (sym c.is_sound_plain.ensures ∙ c.if-not-is_sound_plain.false)

pub returns : goal.returns
returns c = asked _ _ _ _ _ _ _ _ (sym c.is_sound_plain.ensures ∙ c.if-not-is_sound_plain.false) (sym c.box_in_domain.ensures ∙ c.if-not-box_in_domain.false) c.load_box.ensures c.box_query.ensures

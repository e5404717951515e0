-- `place_of`: each test, and what it leaves to `tail_place`.
use Rattle.outline.proofs.Ways.{place_over, place_none, place_corner, place_skip, place_far}
use native.Mathlib.Omega.{arith}
use Rattle.outline.proofs.place_of.Goals as goal

pub returns-then-s : goal.returns-then-s
returns-then-s c = record { is = place_over _ _ _ _ _ c.if-s.true; safe = tt }

pub returns-then-n-eq0 : goal.returns-then-n-eq0
returns-then-n-eq0 c = record { is = place_none _ _ _ _ _ c.tail_place.ensures.is c.if-s.false c.if-n-eq0.true; safe = c.tail_place.ensures.safe }

pub returns-then-tag-eq-CORNER : goal.returns-then-tag-eq-CORNER
returns-then-tag-eq-CORNER c = record { is = place_corner _ _ _ _ _ c.is_close.ensures c.if-s.false c.if-n-eq0.false c.if-is_close.true c.if-tag-eq-CORNER.true; safe = omega arith }

pub returns-then-is_close : goal.returns-then-is_close
returns-then-is_close c = record { is = place_skip _ _ _ _ _ c.is_close.ensures c.if-s.false c.if-n-eq0.false c.if-is_close.true c.if-tag-eq-CORNER.false; safe = tt }

pub returns : goal.returns
returns c = record { is = place_far _ _ _ _ _ c.is_close.ensures c.if-s.false c.if-n-eq0.false c.tail_place-2.ensures.is c.if-is_close.false; safe = c.tail_place-2.ensures.safe }

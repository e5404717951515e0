-- `tail_place`: each test, and what it leaves to `add_place`.
use Rattle.outline.proofs.Ways.{tail_corner, tail_few, tail_last, tail_prev, tail_same}
use native.Mathlib.Omega.{arith}
use Rattle.outline.proofs.tail_place.Goals as goal
use Rattle.outline.proofs.tail_place.Goals.{else-tag-ne-CORNER-via-then-tag-ne-CORNER+then-s-ge2+then-s-tag+else-s-tag-2, else-tag-ne-CORNER-via-then-tag-ne-CORNER+then-s-ge2+else-s-tag, else-tag-ne-CORNER-via-then-tag-ne-CORNER+else-s-ge2, else-tag-ne-CORNER-via-else-tag-ne-CORNER}

pub returns-then-s-tag-2 : goal.returns-then-s-tag-2
returns-then-s-tag-2 c = record { is = tail_same _ _ _ c.if-tag-ne-CORNER.true c.if-s-ge2.true c.if-s-tag.true c.if-s-tag-2.true; safe = omega arith }

pub returns : goal.returns
returns c = record {
  is = elim c.else-tag-ne-CORNER.branch [
    | else-tag-ne-CORNER-via-then-tag-ne-CORNER+then-s-ge2+then-s-tag+else-s-tag-2 w ↦ tail_prev _ _ _ c.add_place.ensures.is w.if-tag-ne-CORNER.true w.if-s-ge2.true w.if-s-tag.true w.if-s-tag-2.false
    | else-tag-ne-CORNER-via-then-tag-ne-CORNER+then-s-ge2+else-s-tag w ↦ tail_last _ _ _ c.add_place.ensures.is w.if-tag-ne-CORNER.true w.if-s-ge2.true w.if-s-tag.false
    | else-tag-ne-CORNER-via-then-tag-ne-CORNER+else-s-ge2 w ↦ tail_few _ _ _ c.add_place.ensures.is w.if-tag-ne-CORNER.true w.if-s-ge2.false
    | else-tag-ne-CORNER-via-else-tag-ne-CORNER w ↦ tail_corner _ _ _ c.add_place.ensures.is w.if-tag-ne-CORNER.false
  ];
  safe = c.add_place.ensures.safe;
}

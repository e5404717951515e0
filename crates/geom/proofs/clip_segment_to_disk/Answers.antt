-- `geom::clip_segment_to_disk` meets its contract. Assumes nothing.
use Rattle.geom.specs.Segment.{clip_segment_to_disk_of}
use Rattle.geom.proofs.Spanning.{in_order}
use Rattle.geom.proofs.clip_segment_to_disk.Goals as goal

pub returns-then-length_sq-radius : goal.returns-then-length_sq-radius
unfolding clip_segment_to_disk_of
returns-then-length_sq-radius c = simp (← c.sub-d.ensures, ← c.sub-f.ensures, ← c.length_sq-qa.ensures, c.if-qa.true, ← c.length_sq.ensures, c.if-length_sq-radius.true)

pub returns-then-qa : goal.returns-then-qa
unfolding clip_segment_to_disk_of
returns-then-qa c = simp (← c.sub-d.ensures, ← c.sub-f.ensures, ← c.length_sq-qa.ensures, c.if-qa.true, ← c.length_sq.ensures, c.if-length_sq-radius.false)

pub returns-then-disc : goal.returns-then-disc
unfolding clip_segment_to_disk_of
returns-then-disc c = simp (← c.sub-d.ensures, ← c.sub-f.ensures, ← c.length_sq-qa.ensures, c.if-qa.false, ← c.dot-qb.ensures, ← c.length_sq-2.ensures, c.if-disc.true)

-- both ends are the segment's own
pub returns-then-spans : goal.returns-then-spans
unfolding clip_segment_to_disk_of
returns-then-spans c =
    let e = c.spans.ensures c.if-spans.true in
    simp (← c.sub-d.ensures, ← c.sub-f.ensures, ← c.length_sq-qa.ensures, c.if-qa.false, ← c.dot-qb.ensures, ← c.length_sq-2.ensures, c.if-disc.false, e.0, e.1, in_order)

pub returns-then-t0-t1 : goal.returns-then-t0-t1
unfolding clip_segment_to_disk_of
returns-then-t0-t1 c = simp (← c.sub-d.ensures, ← c.sub-f.ensures, ← c.length_sq-qa.ensures, c.if-qa.false, ← c.dot-qb.ensures, ← c.length_sq-2.ensures, c.if-disc.false, ← c.sqrt-sq.ensures, ← c.max-t0.ensures, ← c.min-t1.ensures, c.if-t0-t1.true)

pub returns : goal.returns
unfolding clip_segment_to_disk_of
returns c = simp (← c.sub-d.ensures, ← c.sub-f.ensures, ← c.length_sq-qa.ensures, c.if-qa.false, ← c.dot-qb.ensures, ← c.length_sq-2.ensures, c.if-disc.false, ← c.sqrt-sq.ensures, ← c.max-t0.ensures, ← c.min-t1.ensures, c.if-t0-t1.false)

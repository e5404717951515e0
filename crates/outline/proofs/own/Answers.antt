-- `own`: the mark and the counts are the definition's, and stay within the room.
use Rattle.std.proofs.Common.{refl}
use Rattle.outline.proofs.Ways.{own_over, own_add_by, own_full_by, grown_over, grown_add, grown_full}
use native.Mathlib.Omega.{arith}
use Rattle.outline.proofs.own.Goals as goal

pub returns-then-s : goal.returns-then-s
returns-then-s c = record { result_after = own_over _ _ _ _ _ c.if-s.true; grown = grown_over c.requires c.if-s.true }

pub overflow_add-result : goal.overflow_add-result
overflow_add-result c = omega (arith, c.if-m-room.true)

pub returns-then-m-room : goal.returns-then-m-room
returns-then-m-room c = record { result_after = own_add_by _ _ _ _ _ c.if-s.false refl c.if-m-room.true refl c.owner_at.ensures refl c.put.ensures; grown = grown_add c.requires c.if-s.false refl c.if-m-room.true }

pub overflow_add-result-2 : goal.overflow_add-result-2
overflow_add-result-2 c = omega (arith, c.requires.most, c.ranges)

pub returns : goal.returns
returns c = record { result_after = own_full_by _ _ _ _ _ c.if-s.false refl c.if-m-room.false; grown = grown_full c.requires c.if-s.false }

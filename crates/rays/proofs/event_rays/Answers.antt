-- `event_rays`: a sector's side, and another event. Assumes nothing.
use mathlib.Core.Path.{subst}
use mathlib.Core.List.{List}
use Prim.Native.Nat.{◌+◌}
use native.Mathlib.Omega.{arith}
use Rattle.room.specs.declared.Sample.{Sample}
use Rattle.rays.specs.Stands.{Emits}
use Rattle.rays.proofs.Ways.{ray_few, rays_side, rays_plain}
use Rattle.rays.proofs.Emitting.{emits_join, roomy_at}
use Rattle.rays.proofs.event_rays.Goals as goal

pub emit-at-requires : goal.emit-at-requires
emit-at-requires c = roomy_at c.args.k _ (c.args.n + 2) c.args.n c.emit-before.result c.args.floats.now c.args.words.now c.emit-before.new.floats c.emit-before.new.words c.requires c.emit-before.ensures c.emit-before.result (omega (arith, c.emit-before.ensures.count, ray_few c.args.view c.args.i c.merged_at-e.result.angle 0))

pub emit-requires : goal.emit-requires
emit-requires c =
    let r = roomy_at c.args.k _ (c.args.n + 2) c.args.n c.emit-before.result c.args.floats.now c.args.words.now c.emit-before.new.floats c.emit-before.new.words c.requires c.emit-before.ensures (c.args.n + 2) (omega arith) in
    roomy_at c.args.k _ (c.args.n + 2) c.emit-before.result c.emit-at.result c.emit-before.new.floats c.emit-before.new.words c.emit-at.new.floats c.emit-at.new.words r c.emit-at.ensures c.emit-at.result (omega (arith, c.emit-before.ensures.count, c.emit-at.ensures.count, ray_few c.args.view c.args.i c.merged_at-e.result.angle 0, ray_few c.args.view c.args.i c.merged_at-e.result.angle 1))

pub returns-then-e : goal.returns-then-e
returns-then-e c =
    subst (λ (l : List Sample). Emits c.args.k l c.args.n c.emit.result c.args.floats.now c.args.words.now c.emit.new.floats c.emit.new.words)
    (rays_side c.args.k c.args.view c.args.floats.now c.args.words.now c.args.i c.merged_at-e.result c.merged_at-e.ensures c.if-e.true)
    (emits_join c.args.k _ _ c.args.n c.emit-before.result c.emit.result c.args.floats.now c.args.words.now c.emit-before.new.floats c.emit-before.new.words c.emit.new.floats c.emit.new.words c.emit-before.ensures
    (emits_join c.args.k _ _ c.emit-before.result c.emit-at.result c.emit.result c.emit-before.new.floats c.emit-before.new.words c.emit-at.new.floats c.emit-at.new.words c.emit.new.floats c.emit.new.words c.emit-at.ensures c.emit.ensures))

pub emit-requires-2 : goal.emit-requires-2
emit-requires-2 c = roomy_at c.args.k _ (c.args.n + 2) c.args.n c.emit-before.result c.args.floats.now c.args.words.now c.emit-before.new.floats c.emit-before.new.words c.requires c.emit-before.ensures c.emit-before.result (omega (arith, c.emit-before.ensures.count, ray_few c.args.view c.args.i c.merged_at-e.result.angle 0))

pub returns : goal.returns
returns c =
    subst (λ (l : List Sample). Emits c.args.k l c.args.n c.emit-2.result c.args.floats.now c.args.words.now c.emit-2.new.floats c.emit-2.new.words)
    (rays_plain c.args.k c.args.view c.args.floats.now c.args.words.now c.args.i c.merged_at-e.result c.merged_at-e.ensures c.if-e.false)
    (emits_join c.args.k _ _ c.args.n c.emit-before.result c.emit-2.result c.args.floats.now c.args.words.now c.emit-before.new.floats c.emit-before.new.words c.emit-2.new.floats c.emit-2.new.words c.emit-before.ensures c.emit-2.ensures)

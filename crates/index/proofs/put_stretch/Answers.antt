-- `put_stretch`: the buckets from the first up to b are done. Assumes nothing.
use Rattle.std.proofs.Common.{◌≡◌, ℕ, ◌+◌, ◌-◌, ◌<◌, ◌≤◌, eqb, length, get_or, take, drop, ap, ◌∙◌, le_refl, arith, length-drop, length-set, length-take, get_or-take, refl}
use Rattle.lists.specs.Lists.{bit}
use Rattle.tables.specs.Scatter.{within}
use Rattle.tables.proofs.Cells.{within_none, within_in, within_out, within_more}
use Rattle.tables.proofs.Puts.{put_none, put_ext, put_join}
use Rattle.index.proofs.Buckets.{within_long}
use Rattle.index.proofs.Puts.{put_at}
use Rattle.index.proofs.put_stretch.Goals as goal

pub loop-b-init : goal.loop-b-init
loop-b-init c = (omega arith, put_none (within c.args.s.from c.args.s.from) c.args.id (take c.args.refs c.args.w.now) (drop c.args.refs c.args.w.now) (within_none c.args.s.from))

pub overflow_sub-at : goal.overflow_sub-at
overflow_sub-at c = omega (arith, (let it : (0 < get_or c.loop-b.w c.loop-b.b 0) × (c.args.refs + get_or c.loop-b.w c.loop-b.b 0 ≤ length c.loop-b.w) = let inside : c.loop-b.b < c.args.refs = omega (arith, c.requires.0) in let room = c.requires.2 c.loop-b.b (within_in c.args.s.from c.args.s.to c.loop-b.b c.loop-b.auto.b (omega arith)) in let down = c.loop-b.invariant.1.down c.loop-b.b in let none = ap bit (within_out c.args.s.from c.loop-b.b c.loop-b.b (le_refl _)) in let at = get_or-take c.args.refs c.loop-b.w c.loop-b.b 0 inside in let long = length-drop c.args.refs c.args.w.now in (omega (arith, room.0, down, none, at), omega (arith, room.1, down, none, at, long, c.requires.1)) in it))

pub overflow_add-w : goal.overflow_add-w
overflow_add-w c = omega (arith, (let it : (0 < get_or c.loop-b.w c.loop-b.b 0) × (c.args.refs + get_or c.loop-b.w c.loop-b.b 0 ≤ length c.loop-b.w) = let inside : c.loop-b.b < c.args.refs = omega (arith, c.requires.0) in let room = c.requires.2 c.loop-b.b (within_in c.args.s.from c.args.s.to c.loop-b.b c.loop-b.auto.b (omega arith)) in let down = c.loop-b.invariant.1.down c.loop-b.b in let none = ap bit (within_out c.args.s.from c.loop-b.b c.loop-b.b (le_refl _)) in let at = get_or-take c.args.refs c.loop-b.w c.loop-b.b 0 inside in let long = length-drop c.args.refs c.args.w.now in (omega (arith, room.0, down, none, at), omega (arith, room.1, down, none, at, long, c.requires.1)) in it))

pub offset_bounds-w-refs : goal.offset_bounds-w-refs
offset_bounds-w-refs c = omega (arith, (let it : c.args.refs + (get_or c.loop-b.w c.loop-b.b 0 - 1) < length c.loop-b.w = let x = (let it : (0 < get_or c.loop-b.w c.loop-b.b 0) × (c.args.refs + get_or c.loop-b.w c.loop-b.b 0 ≤ length c.loop-b.w) = let inside : c.loop-b.b < c.args.refs = omega (arith, c.requires.0) in let room = c.requires.2 c.loop-b.b (within_in c.args.s.from c.args.s.to c.loop-b.b c.loop-b.auto.b (omega arith)) in let down = c.loop-b.invariant.1.down c.loop-b.b in let none = ap bit (within_out c.args.s.from c.loop-b.b c.loop-b.b (le_refl _)) in let at = get_or-take c.args.refs c.loop-b.w c.loop-b.b 0 inside in let long = length-drop c.args.refs c.args.w.now in (omega (arith, room.0, down, none, at), omega (arith, room.1, down, none, at, long, c.requires.1)) in it) in omega (arith, x.0, x.1) in it))

pub bounds-w-refs : goal.bounds-w-refs
bounds-w-refs c = simp length-set ((let it : c.args.refs + (get_or c.loop-b.w c.loop-b.b 0 - 1) < length c.loop-b.w = let x = (let it : (0 < get_or c.loop-b.w c.loop-b.b 0) × (c.args.refs + get_or c.loop-b.w c.loop-b.b 0 ≤ length c.loop-b.w) = let inside : c.loop-b.b < c.args.refs = omega (arith, c.requires.0) in let room = c.requires.2 c.loop-b.b (within_in c.args.s.from c.args.s.to c.loop-b.b c.loop-b.auto.b (omega arith)) in let down = c.loop-b.invariant.1.down c.loop-b.b in let none = ap bit (within_out c.args.s.from c.loop-b.b c.loop-b.b (le_refl _)) in let at = get_or-take c.args.refs c.loop-b.w c.loop-b.b 0 inside in let long = length-drop c.args.refs c.args.w.now in (omega (arith, room.0, down, none, at), omega (arith, room.1, down, none, at, long, c.requires.1)) in it) in omega (arith, x.0, x.1) in it))

pub loop-b-preserved : goal.loop-b-preserved
loop-b-preserved c =
    let x = (let it : (0 < get_or c.loop-b.w c.loop-b.b 0) × (c.args.refs + get_or c.loop-b.w c.loop-b.b 0 ≤ length c.loop-b.w) = let inside : c.loop-b.b < c.args.refs = omega (arith, c.requires.0) in let room = c.requires.2 c.loop-b.b (within_in c.args.s.from c.args.s.to c.loop-b.b c.loop-b.auto.b (omega arith)) in let down = c.loop-b.invariant.1.down c.loop-b.b in let none = ap bit (within_out c.args.s.from c.loop-b.b c.loop-b.b (le_refl _)) in let at = get_or-take c.args.refs c.loop-b.w c.loop-b.b 0 inside in let long = length-drop c.args.refs c.args.w.now in (omega (arith, room.0, down, none, at), omega (arith, room.1, down, none, at, long, c.requires.1)) in it) in (
      omega arith,
      put_join (within c.args.s.from c.loop-b.b) (λ j. eqb j c.loop-b.b) (within c.args.s.from (c.loop-b.b + 1)) c.args.id _ _ (take c.args.refs c.loop-b.w) (drop c.args.refs c.loop-b.w) _ _
          (λ j. within_more c.args.s.from c.loop-b.b j c.loop-b.auto.b) (simp length-take (omega arith)) c.loop-b.invariant.1
          (put_at c.args.id c.loop-b.b c.args.refs c.loop-b.w _ (omega (arith, c.requires.0)) (omega (arith, c.requires.1)) x.0 refl),
    )

pub returns : goal.returns
returns c =
    let e : c.loop-b.b ≡ c.args.s.from + (c.args.s.to - c.args.s.from) = omega (arith, c.loop-b.auto.b, c.loop-b.invariant.0) in
    put_ext (within c.args.s.from c.loop-b.b) (within c.args.s.from c.args.s.to) c.args.id _ _ _ _
    (λ j. ap (λ (t : ℕ). within c.args.s.from t j) e ∙ within_long c.args.s.from c.args.s.to j) c.loop-b.invariant.1

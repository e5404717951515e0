-- `count_refs`: the references of the edges up to i. Assumes nothing.
use Rattle.std.proofs.Common.{◌≡◌, suc, ◌+◌, ◌*◌, ◌≤◌, refl, ap, ◌∙◌, add-one, arith}
use Rattle.index.specs.Spans.{edge_refs}
use Rattle.index.specs.Filling.{spans_at, refs_to}
use Rattle.index.proofs.Buckets.{refs_few, at_inside}
use Rattle.index.proofs.count_refs.Goals as goal

pub loop-i-init : goal.loop-i-init
loop-i-init c = refl

pub overflow_add-refs : goal.overflow_add-refs
overflow_add-refs c = omega (arith, ((let it : (c.width.result + c.width-in-loop-i.result ≡ edge_refs (spans_at c.args.k c.args.floats.now c.args.x c.args.total c.loop-i.i)) × (c.loop-i.refs + (c.width.result + c.width-in-loop-i.result) ≤ 131072 * (c.loop-i.i + 1)) = let f : c.width.result + c.width-in-loop-i.result ≡ edge_refs (spans_at c.args.k c.args.floats.now c.args.x c.args.total c.loop-i.i) = omega (arith, c.width.ensures, c.width-in-loop-i.ensures, ap edge_refs c.edge_spans-s.ensures) in let m = refs_few (spans_at c.args.k c.args.floats.now c.args.x c.args.total) c.args.x.buckets (λ i. at_inside c.args.k c.args.floats.now c.args.x c.args.total i c.requires.0) c.requires.1 (suc c.loop-i.i) in (f, omega (arith, f, c.loop-i.invariant, m)) in it)).1)

pub overflow_add-refs-in-loop-i : goal.overflow_add-refs-in-loop-i
overflow_add-refs-in-loop-i c = omega (arith, ((let it : (c.width.result + c.width-in-loop-i.result ≡ edge_refs (spans_at c.args.k c.args.floats.now c.args.x c.args.total c.loop-i.i)) × (c.loop-i.refs + (c.width.result + c.width-in-loop-i.result) ≤ 131072 * (c.loop-i.i + 1)) = let f : c.width.result + c.width-in-loop-i.result ≡ edge_refs (spans_at c.args.k c.args.floats.now c.args.x c.args.total c.loop-i.i) = omega (arith, c.width.ensures, c.width-in-loop-i.ensures, ap edge_refs c.edge_spans-s.ensures) in let m = refs_few (spans_at c.args.k c.args.floats.now c.args.x c.args.total) c.args.x.buckets (λ i. at_inside c.args.k c.args.floats.now c.args.x c.args.total i c.requires.0) c.requires.1 (suc c.loop-i.i) in (f, omega (arith, f, c.loop-i.invariant, m)) in it)).1)

pub loop-i-preserved : goal.loop-i-preserved
loop-i-preserved c =
    let s : refs_to c.args.k c.args.floats.now c.args.x c.args.total (c.loop-i.i + 1) ≡ refs_to c.args.k c.args.floats.now c.args.x c.args.total (suc c.loop-i.i) = ap (refs_to c.args.k c.args.floats.now c.args.x c.args.total) (add-one c.loop-i.i) in
    omega (arith, c.loop-i.invariant, ((let it : (c.width.result + c.width-in-loop-i.result ≡ edge_refs (spans_at c.args.k c.args.floats.now c.args.x c.args.total c.loop-i.i)) × (c.loop-i.refs + (c.width.result + c.width-in-loop-i.result) ≤ 131072 * (c.loop-i.i + 1)) = let f : c.width.result + c.width-in-loop-i.result ≡ edge_refs (spans_at c.args.k c.args.floats.now c.args.x c.args.total c.loop-i.i) = omega (arith, c.width.ensures, c.width-in-loop-i.ensures, ap edge_refs c.edge_spans-s.ensures) in let m = refs_few (spans_at c.args.k c.args.floats.now c.args.x c.args.total) c.args.x.buckets (λ i. at_inside c.args.k c.args.floats.now c.args.x c.args.total i c.requires.0) c.requires.1 (suc c.loop-i.i) in (f, omega (arith, f, c.loop-i.invariant, m)) in it)).0, s)

pub returns : goal.returns
returns c =
    let e : c.loop-i.i ≡ c.args.n = omega arith in
    c.loop-i.invariant ∙ ap (refs_to c.args.k c.args.floats.now c.args.x c.args.total) e

-- `wkt::read_input` meets its contract. Assumes nothing.
use Rattle.wkt.proofs.Stored.{limited, counts, cells}
use Rattle.wkt.specs.Cursor.{polygons_in, points_in}
use Rattle.wkt.specs.Answer.{text_in, rings_of, total}
use Rattle.std.proofs.Common.{◌≡◌, ℕ, ◌*◌, length, ap, ◌∙◌, arith, rules}
use Rattle.wkt.proofs.read_input.Goals as goal

pub overflow_mul-points_in : goal.overflow_mul-points_in
overflow_mul-points_in c =
    let t = text_in c.args.s.now in
    omega (arith, (limited t).points, (counts t).1, c.points_in.ensures ∙ ap points_in c.read_text-a.ensures.read)

pub returns : goal.returns
returns c =
    let t = text_in c.args.s.now in
    let k : c.points_in.result ≡ total (rings_of t) = c.points_in.ensures ∙ ap points_in c.read_text-a.ensures.read ∙ (counts t).1 in
    let n : c.polygons_in.result ≡ length (rings_of t) = c.polygons_in.ensures ∙ ap polygons_in c.read_text-a.ensures.read ∙ (counts t).0 in
    let r = cells c.args.pts.now c.args.lens.now _ _ t (2 * c.points_in.result) c.polygons_in.result (ap (λ (x : ℕ). 2 * x) k) n (search rules) (search rules) c.read_text-a.ensures.stored in
    record { answer = c.read_text-a.ensures.read; points = c.clear_from.ensures ∙ r.0; lengths_in = c.clear_from-2.ensures ∙ r.1 }

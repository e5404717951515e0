-- `wkt::put_point` meets its contract. Assumes nothing.
use lib.Ieee.{Float}
use Rattle.std.proofs.Common.{ℕ, ◌+◌, ◌*◌, List, set, ap, ◌∙◌, add-one}
use Rattle.wkt.proofs.put_point.Goals as goal

pub returns : goal.returns
returns c = c.put-2.ensures ∙ ap (λ (l : List Float). set l (2 * c.args.k + 1) c.args.y) c.put.ensures ∙ ap (λ (i : ℕ). set (set c.args.pts.now (2 * c.args.k) c.args.x) i c.args.y) (add-one (2 * c.args.k))

-- `wkt::read_polygon` meets its contract. Assumes nothing.
use Rattle.std.proofs.Common.{ℕ, List, [], drop, refl, ap, ◌∙◌, subst, arith}
use Rattle.wkt.proofs.Lined.{polygon_empty, polygon_ring}
use Rattle.wkt.proofs.Prefix.{behind}
use Rattle.wkt.proofs.Rings.{post_read}
use Rattle.wkt.specs.Rules.{rules}
use Rattle.wkt.specs.Cursor.{counted, StoredBy}
use Rattle.wkt.specs.Grammar.{Point, polygon}
use Rattle.wkt.specs.Parse.{Parse, got}
use Rattle.wkt.proofs.read_polygon.Goals as goal

-- no points
abbrev none : List ℕ → Parse (List Point)
none t = got [] t

pub returns-in-Some : goal.returns-in-Some
returns-in-Some c =
    let next = c.in-Some.ensures in
    let d = polygon_empty (rules c.args.whole c.args.part) (drop c.args.at c.args.s.now) next.0 ∙ ap none (behind c.args.s.now c.args.at 14 _ next.1) in
    let p = post_read (polygon (rules c.args.whole c.args.part) (drop c.args.at c.args.s.now)) [] 0 _ c.args.pts.now c.args.k _ d refl refl in
    record { seen = p.0; on = (omega arith, next.2); stored = p.1 }

pub returns-clause-seen : goal.returns-clause-seen
returns-clause-seen c = c.read_ring_line.ensures.seen ∙ ap counted (polygon_ring (rules c.args.whole c.args.part) (drop c.args.at c.args.s.now) c.in_default.ensures)

pub returns-clause-stored : goal.returns-clause-stored
returns-clause-stored c =
    subst (λ (r : Parse (List Point)). StoredBy r c.args.pts.now c.args.k c.read_ring_line.new.pts) (polygon_ring (rules c.args.whole c.args.part) (drop c.args.at c.args.s.now) c.in_default.ensures) c.read_ring_line.ensures.stored

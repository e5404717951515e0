-- `wkt_print::print_points` meets its contract. Assumes nothing.
use Rattle.wkt_print.proofs.Printing.{Left, left_start, left_more, left_done, left_place, then, list_next, points_end}
use Rattle.wkt_print.proofs.Lengths.{point_length, list_room}
use Rattle.wkt_print.specs.Lines.{points_of, list_text}
use Rattle.wkt.specs.Grammar.{point}
use lib.Ieee.{Float, nan}
use lib.ListN.{get_or}
use mathlib.Core.List.{List}
use mathlib.Core.Path.{refl, ap, ◌∙◌, subst}
use borrow.Author.Rules.{rules}
use native.Mathlib.Omega.{arith}
use Rattle.wkt_print.proofs.print_points.Goals as goal

pub loop-p-init : goal.loop-p-init
loop-p-init c = (
  subst (λ (l : List Float). Left c.args.out.now c.args.at (list_text c.args.places (points_of c.args.pts.now)) c.args.out.now c.args.at (list_text c.args.places (points_of l))) (search rules) (left_start c.args.out.now c.args.at (list_text c.args.places (points_of c.args.pts.now))),
  search rules,
  refl,
)

pub print_point-j-requires : goal.print_point-j-requires
print_point-j-requires c = (c.requires.0, omega (arith, left_place c.loop-p.invariant.0, list_room c.args.places c.args.pts.now c.requires.0 c.requires.1, c.requires.2))

pub put_word-j-requires : goal.put_word-j-requires
put_word-j-requires c = (omega (arith, point_length c.args.places (point (get_or c.in-Some.p.now 0 nan) (get_or c.in-Some.p.now 1 nan)), c.requires.0, left_place c.loop-p.invariant.0, list_room c.args.places c.args.pts.now c.requires.0 c.requires.1, c.requires.2), search rules)

pub loop-p-preserved : goal.loop-p-preserved
loop-p-preserved c =
    let s = c.in-Some.ensures.steps in (
      left_more c.loop-p.invariant.0 (list_text c.args.places (points_of c.next.new.self.rest.now))
          (ap (λ (l : List Float). list_text c.args.places (points_of l)) s.1.0 ∙ list_next c.args.places c.in-Some.p.now c.next.new.self.rest.now (s.1.1 ∙ c.loop-p.invariant.1))
          (then c.print_point-j.ensures c.put_word-j.ensures),
      s.0 ∙ c.loop-p.invariant.1,
      c.put_word-j.auto.out ∙ c.print_point-j.auto.out ∙ c.loop-p.invariant.2,
    )

pub returns : goal.returns
returns c = left_done c.loop-p.invariant.0 (ap (list_text c.args.places) (points_end c.loop-p.p-iterator.rest.now (omega (arith, c.in-None.ensures.steps.1.0, c.loop-p.invariant.1))))

-- `answer_with`: the answer printed, and zeros behind it. Assumes nothing.
use mathlib.Core.Path.{refl, ◌∙◌}
use Prim.Native.Nat.{ℕ}
use lib.ListN.{length}
use Rattle.wkt.proofs.Stored.{held_is}
use Rattle.planner.specs.Answer.{answer_of}
use Rattle.planner.proofs.Ways.{from_zero}
use Rattle.planner.proofs.answer_with.Goals as goal

pub returns : goal.returns
returns c = record { long = from_zero _ (length (answer_of c.args.places c.args.text.now)) c.print_answer-r.ensures.printed.next; says = c.clear_from.ensures ∙ held_is {A = ℕ} 0 c.args.out.now (answer_of c.args.places c.args.text.now) _ _ (length c.args.out.now) c.print_answer-r.ensures.printed.text (from_zero _ (length (answer_of c.args.places c.args.text.now)) c.print_answer-r.ensures.printed.next) refl; fits = c.print_answer-r.ensures.fits }

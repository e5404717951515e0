-- `wkt::after_word` meets its contract. Assumes nothing.
use Rattle.std.proofs.Common.{◌≡◌, ℕ, ◌+◌, ◌<◌, Bool, true, false, ◌&&◌, List, length, get_or, drop, sym, ap, ◌∙◌, arith, drop-drop}
use Rattle.wkt.proofs.Numerals.{inside}
use Rattle.wkt.proofs.Prefix.{begins_step}
use Rattle.wkt.specs.Rules.{capital_of}
use Rattle.wkt.specs.Parse.{begins, spells}
use Rattle.wkt.proofs.after_word.Goals as goal

one_on : (s v : List ℕ) (at i : ℕ) (b : Bool) → i < length v → spells capital_of (get_or v i 0) (drop (at + i) s) ≡ b → begins capital_of (drop i v) (drop (at + i) s) ≡ (b && begins capital_of (drop (i + 1) v) (drop (at + (i + 1)) s))
one_on s v at i b h e =
    let g : at + i + 1 ≡ at + (i + 1) = omega arith in
    begins_step capital_of v (drop (at + i) s) i b h e ∙ ap (λ (t : List ℕ). b && begins capital_of (drop (i + 1) v) t) (drop-drop 1 (at + i) s ∙ ap (λ (x : ℕ). drop x s) g)

pub returns-then-not-spells_at : goal.returns-then-not-spells_at
returns-then-not-spells_at c = c.loop-i.invariant.0 ∙ one_on c.args.s.now c.args.word.now c.args.at c.loop-i.i false (omega arith) (sym c.if-not-spells_at.ensures)

pub loop-i-preserved : goal.loop-i-preserved
loop-i-preserved c =
    let on = sym c.if-not-spells_at.ensures in
    let in_text = inside capital_of c.args.s.now (c.args.at + c.loop-i.i) _ on in
    (c.loop-i.invariant.0 ∙ one_on c.args.s.now c.args.word.now c.args.at c.loop-i.i true (omega arith) on, omega arith)

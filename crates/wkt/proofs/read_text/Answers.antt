-- `wkt::read_text` meets its contract. Assumes nothing.
use Rattle.std.proofs.lemmas.Result.{err_from_is_err_and}
use Rattle.wkt.proofs.Texts.{text_by, text_long, say_all, say_nine}
use Rattle.wkt.specs.Rules.{rules}
use Rattle.wkt.specs.Grammar.{post, polygons, text_of}
use Rattle.wkt.specs.Parse.{got, wrong}
use Rattle.wkt.specs.Cursor.{post_seen}
use Rattle.refusal.specs.declared.Refusal.{Refusal}
use Rattle.refusal.specs.declared.Refusal.TheVariants.{NotAsLaidOut}
use Rattle.std.proofs.Common.{◌≡◌, Some, None, length, drop, sym, ap, ◌∙◌, arith}
use Rattle.wkt.proofs.read_text.Goals as goal

pub returns-then-s-gt-MAX_BYTES : goal.returns-then-s-gt-MAX_BYTES
returns-then-s-gt-MAX_BYTES c = let it = say_nine _ c.args.pts.now c.args.lens.now _ _ (text_long _ _ (omega arith)) in record { read = it.0; stored = it.1 }

pub returns-in_err-post : goal.returns-in_err-post
returns-in_err-post c =
    let none : c.read_post.result ≡ None = grind arith in
    let e : ◌≡◌ {A = Refusal} c.in_err-post.field-0.0 NotAsLaidOut = grind arith in
    let it = say_nine _ c.args.pts.now c.args.lens.now _ _ (text_by _ _ wrong (omega arith) (sym c.read_post.ensures.seen ∙ ap (post_seen c.args.s.now) none)) in
    let p = err_from_is_err_and c.from_residual.result c.from_residual.ensures.1 in
    record { read = rw (p.1, p.2, e) it.0; stored = it.1 }

pub returns : goal.returns
returns c =
    let s = c.args.s.now in
    let h = c.in_ok-post.post in
    let some : c.read_post.result ≡ Some h = grind arith in
    let p = text_by (rules c.args.whole c.args.part) s (got (post h.x h.y h.range) (drop h.next s)) (omega arith) (sym c.read_post.ensures.seen ∙ ap (post_seen s) some) in
    let r = say_all h.x h.y h.range (text_of (rules c.args.whole c.args.part) s) (polygons (rules c.args.whole c.args.part) (length (drop h.next s)) (drop h.next s)) c.read_polygons-lines.result c.args.pts.now c.args.lens.now _ _ p c.read_polygons-lines.ensures.seen c.read_polygons-lines.ensures.stored in
    record { read = c.answer.ensures ∙ r.0; stored = r.1 }

-- `compute_visibility`: refused and nothing written, or everything after the tests. Assumes nothing.
use Rattle.std.proofs.Common.{sym, ◌∙◌}
use Rattle.std.proofs.lemmas.Result.{err_from_is_err_and}
use Rattle.visibility.proofs.Admitting.{admitted_sound, refused_is, loaded_is}
use Rattle.view.specs.Outcome.{lent}
use Rattle.site.proofs.SoundLaws.{sound}
use Rattle.visibility.proofs.compute_visibility.Goals as goal

pub returns-in_err-admit : goal.returns-in_err-admit
returns-in_err-admit c =
    let p = err_from_is_err_and c.from_residual.result c.from_residual.ensures.1 in
    rw (p.1, p.2) (refused_is _ _ _ _ _ _ (lent c.args.marks.now c.args.epoch.now c.args.floats.now c.args.words.now c.args.outline.now c.args.visible.now) c.admit.ensures c.in_err-admit.was)

pub seen_from-requires : goal.seen_from-requires
seen_from-requires c = sound _ _ (admitted_sound _ _ _ _ _ (sym c.admit.ensures ∙ c.in_ok-admit.was))

pub shape_of-marks : goal.shape_of-marks
shape_of-marks c = c.seen_from.auto.marks

pub shape_of-floats : goal.shape_of-floats
shape_of-floats c = c.seen_from.auto.floats

pub shape_of-words : goal.shape_of-words
shape_of-words c = c.seen_from.auto.words

pub shape_of-outline : goal.shape_of-outline
shape_of-outline c = c.seen_from.auto.outline

pub shape_of-visible : goal.shape_of-visible
shape_of-visible c = c.seen_from.auto.visible

pub returns : goal.returns
returns c = loaded_is _ _ _ _ _ _ (lent c.args.marks.now c.args.epoch.now c.args.floats.now c.args.words.now c.args.outline.now c.args.visible.now) c.admit.ensures c.loaded.ensures c.load.ensures c.seen_from.ensures c.in_ok-admit.was

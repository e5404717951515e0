-- `close`: the corners sorted in their place, and the event behind the closed ones. Assumes nothing.
use native.Mathlib.Omega.{arith}
use Rattle.events.proofs.Closing.{closing_at}
use Rattle.events.proofs.close.Goals as goal

pub sort_numbers-requires : goal.sort_numbers-requires
sort_numbers-requires c = (omega (arith, c.requires.stands.within, c.requires.stands.room, c.corners_w.ensures, c.starts_w-to.ensures), omega (arith, c.requires.fit.words_fit, c.starts_w-to.ensures))

pub returns : goal.returns
returns c =
    closing_at c.args.k c.args.g c.args.floats.now c.put_merged.new.floats c.args.words.now c.sort_numbers.new.us c.put_merged.new.words _ _ _ c.requires
    (omega (arith, c.corners_w.ensures)) (omega (arith)) c.starts_w-to.ensures c.sort_numbers.ensures c.put_merged.ensures

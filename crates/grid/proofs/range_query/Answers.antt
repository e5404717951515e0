-- `grid::range_query` meets its contract. Assumes nothing.
use Rattle.grid.specs.Entries.{entries_in}
use Rattle.grid.specs.Query.{outcome_by}
use Rattle.grid.proofs.Closing.{refused, listed}
use Rattle.grid.proofs.range_query.Goals as goal

pub stamp_rows-t-requires : goal.stamp_rows-t-requires
stamp_rows-t-requires c = record { sound_grid = c.requires.sound_grid; in_grid = c.requires.in_grid }

pub returns-then-ids-n : goal.returns-then-ids-n
unfolding outcome_by
returns-then-ids-n c = refused (entries_in c.args.g c.args.r c.args.starts.now c.args.items.now) c.args.marks.now c.args.epoch.now c.args.ids.now _ _ _ _ _ c.next_epoch.ensures.epoch_after c.next_epoch.ensures.marks_after c.stamp_rows-t.ensures.value c.stamp_rows-t.ensures.marks_after c.stamp_rows-t.ensures.ids_after _ c.if-ids-n.true c.clear.ensures

pub returns : goal.returns
unfolding outcome_by
returns c = listed (entries_in c.args.g c.args.r c.args.starts.now c.args.items.now) c.args.marks.now c.args.epoch.now c.args.ids.now _ _ _ _ _ c.next_epoch.ensures.epoch_after c.next_epoch.ensures.marks_after c.stamp_rows-t.ensures.value c.stamp_rows-t.ensures.marks_after c.stamp_rows-t.ensures.ids_after _ c.if-ids-n.false c.clear_from.ensures

-- `Recent::has`: the search of std. Assumes nothing.
use mathlib.Core.Path.{◌∙◌}
use Rattle.sight.proofs.Ways.{any_holds}
use Rattle.sight.proofs.Recent.has.Goals as goal

pub returns : goal.returns
returns c = c.contains.ensures.value ∙ any_holds c.args.id c.args.self.ids

-- `geom::spans` meets its contract. Assumes nothing.
use lib.Ieee.{binary64}
use lib.Ieee.Fits.{mul-fits, neg-fits}
use Rattle.num.proofs.Whole.{yes}
use Rattle.geom.proofs.Spanning.{both_ends}
use Rattle.geom.proofs.spans.Goals as goal

pub returns : goal.returns
returns c = both_ends _ _ _ _ _ (neg-fits binary64 _ (yes c.well_formed.1.0.1)) (yes c.well_formed.1.1.0.1) (mul-fits binary64 _ _) c.max-u.ensures

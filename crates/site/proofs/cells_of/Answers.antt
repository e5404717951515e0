-- `site::cells_of` meets its contract. Assumes nothing.
use Rattle.site.proofs.Accessing.{product_fits}
use borrow.Author.Rules.{rules}
use Rattle.site.proofs.cells_of.Goals as goal

pub overflow_mul-result : goal.overflow_mul-result
overflow_mul-result c = record { fits = product_fits _ _ (search rules) (search rules) }

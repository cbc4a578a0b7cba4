-- The steps of a loop over the elements of a target and over the terms of a sum.
use Rattle.slabs.proofs.LoopLaws.{row-begun, put_next, rows-begun, rows_next, span-start, span-next, column-next, rows-span-start, rows-span-next}
use Rattle.slabs.proofs.RunLaws.{plus-first, plus-on}
use Rattle.product_plan.proofs.Sums.{sum-whole, folded-sum}

-- a row, and row after row
pub ruleset rows = (row-begun, put_next, rows-begun, rows_next)

-- the columns of a row from one on
pub ruleset columns = (span-start, span-next)

-- the rows of a target of one column, from the first or from one on
pub ruleset elements = (rows-begun, column-next)

pub ruleset elements_from = (rows-span-start, rows-span-next)

-- a run of terms
pub ruleset terms = (plus-first, plus-on)

-- a whole sum
pub ruleset sums = (sum-whole, folded-sum)

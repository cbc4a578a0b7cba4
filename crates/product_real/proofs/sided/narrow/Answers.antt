-- The plan that is made is the contract's.
use Rattle.product_real.proofs.sided.narrow.Goals as goal

pub returns : goal.returns
returns g c = rw (c.is_left.ensures, c.element_plan.ensures) at c.across.ensures

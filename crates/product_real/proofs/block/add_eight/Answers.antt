-- The factors of each of the eight sums are inside (Ready: columns-within).
use Rattle.std.proofs.Common.{arith}
use Rattle.product_plan.proofs.Ready.{columns-within}
use Rattle.product_real.proofs.block.add_eight.Goals as goal

pub add_lanes-requires : goal.add_lanes-requires
add_lanes-requires g c = (
  g.met.R.Number.fit 8 (omega arith),
  (
    omega arith,
    λ t l. record { ordered = c.requires.ordered; left = c.requires.left; right = λ p q. columns-within _ 7 t (c.requires.right p q) (omega arith) },
  ),
)

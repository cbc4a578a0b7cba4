-- The bytes past the numbers, the block's number and the bytes past it are looked at.
use Rattle.std.proofs.Common.{refl, sym, ◌∙◌}
use Rattle.card.proofs.Departs.{data-index, data-numbers, data-rest-is, test-eq, test-ne}
use Rattle.card.proofs.block.data_departs.Goals as goal
use Rattle.card.proofs.block.data_departs.Goals.{then-nonzero, else-nonzero}

pub returns-then-from-k : goal.returns-then-from-k
returns-then-from-k c = elim c.if-nonzero.branch [
  | then-nonzero w ↦ c.if-from-k.true ∙ data-numbers _ _ _ _ _ _ c.min-end.ensures refl c.nonzero.ensures w.if-nonzero.true
  | else-nonzero w ↦ c.if-from-k.true ∙ data-index _ _ _ _ (w.from.ensures ∙ w.u16_at.ensures) (test-ne (sym w.value-is ∙ c.if-from-k.true))
]

pub returns-else-from-k : goal.returns-else-from-k
returns-else-from-k c = elim c.if-nonzero.branch [
  | then-nonzero w ↦ cc
  | else-nonzero w ↦
      c.nonzero-else-from-k.ensures
      ∙ data-rest-is _ _ _ _ _ _ _ (λ i. (c.type_inv.b i).fits) c.min-end.ensures refl c.nonzero.ensures w.if-nonzero.false
      (w.from.ensures ∙ w.u16_at.ensures) (test-eq (sym w.value-is ∙ c.if-from-k.false))
]

-- The letters and the bytes past the kind are looked at.
use Rattle.std.proofs.Common.{refl, sym, ◌∙◌}
use Rattle.card.proofs.Departs.{header-letters, header-letters-2, header-rest-is, test-eq, test-ne}
use Rattle.card.proofs.block.header_departs.Goals as goal
use Rattle.card.proofs.block.header_departs.Goals.{then-u16_at-ne21057, else-u16_at-ne21057}

pub returns-then-u16_at-ne19789 : goal.returns-then-u16_at-ne19789
returns-then-u16_at-ne19789 c = elim c.if-u16_at-ne21057.branch [
  | then-u16_at-ne21057 w ↦ c.if-u16_at-ne19789.true ∙ header-letters _ _ c.u16_at.ensures w.if-u16_at-ne21057.true
  | else-u16_at-ne21057 w ↦ c.if-u16_at-ne19789.true ∙ header-letters-2 _ _ w.u16_at-else-u16_at-ne21057.ensures (test-ne (sym w.value-is ∙ c.if-u16_at-ne19789.true))
]

pub returns-else-u16_at-ne19789 : goal.returns-else-u16_at-ne19789
returns-else-u16_at-ne19789 c = elim c.if-u16_at-ne21057.branch [
  | then-u16_at-ne21057 w ↦ absurd (w.if-u16_at-ne21057.true (test-eq (sym w.value-is ∙ c.if-u16_at-ne19789.false)))
  | else-u16_at-ne21057 w ↦
      header-rest-is _ _ _ _ _ (λ i. (c.type_inv.b i).fits) c.u16_at.ensures w.if-u16_at-ne21057.false w.u16_at-else-u16_at-ne21057.ensures (test-eq (sym w.value-is ∙ c.if-u16_at-ne19789.false)) c.nonzero.ensures refl
]

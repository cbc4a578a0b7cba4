-- The element is inside the slab, which has fewer than 2 ^ 63 (Shown: shown, inside).
use Rattle.std.proofs.Common.{arith}
use Rattle.slabs.proofs.Shown.{shown, inside}
use Rattle.slabs.proofs.access.place.Goals as goal

pub place-requires : goal.place-requires
place-requires g c = shown _ _ _ _ c.requires (omega (arith, c.count-count.ensures.counted, c.count-count.ensures.bounded))

pub returns-clause-inside : goal.returns-clause-inside
returns-clause-inside g c = inside _ _ _ _ c.requires _ c.place.ensures

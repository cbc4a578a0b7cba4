-- A refused call leaves its slab; a passed one does the plan's update (Kernels: syr2k_factors, syr2k_square, syr2k_refused, syr2k_done).
use Rattle.number.specs.Kind.{kind}
use Rattle.slabs.specs.Elem.{lent}
use Rattle.rank_plan.proofs.Kernels.{syr2k_factors, syr2k_square, syr2k_refused, syr2k_done}
use Rattle.rank.proofs.syr2k.syr2k.Goals as goal

pub invariant_of-paired : goal.invariant_of-paired
invariant_of-paired g c =
    let n = g.N.Number.numbers in
    let p = c.args in
    record {
      factors = search (syr2k_factors n g.N.Number.multipliers p.uplo p.trans p.alpha (lent (kind n) p.a.now p.va) (lent (kind n) p.b.now p.vb) p.beta (lent (kind n) p.c.now p.vc));
    }

pub update-requires : goal.update-requires
update-requires g c =
    let n = g.N.Number.numbers in
    let p = c.args in
    search (syr2k_square n g.N.Number.multipliers p.uplo p.trans p.alpha (lent (kind n) p.a.now p.va) (lent (kind n) p.b.now p.vb) p.beta (lent (kind n) p.c.now p.vc))

pub returns-then-passed : goal.returns-then-passed
returns-then-passed g c = search (syr2k_done g.N.Number.numbers g.N.Number.multipliers)

pub returns-else-passed : goal.returns-else-passed
returns-else-passed g c = search (syr2k_refused g.N.Number.numbers g.N.Number.multipliers)

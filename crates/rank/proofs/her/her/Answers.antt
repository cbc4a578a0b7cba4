-- A refused call leaves its slab; a passed one does the update (Kernels: her_vector, her_column, her_long, her_square, her_refused, her_done).
use Rattle.number.specs.Kind.{kind}
use Rattle.slabs.specs.Elem.{lent}
use Rattle.rank_plan.proofs.Kernels.{her_vector, her_column, her_long, her_square, her_refused, her_done}
use Rattle.rank.proofs.her.her.Goals as goal

pub column-requires : goal.column-requires
column-requires g c =
    let K = kind g.N.Number.numbers in
    let p = c.args in
    search (her_vector K p.uplo p.alpha (lent K p.x.now p.vx) (lent K p.a.now p.va))

pub invariant_of-x : goal.invariant_of-x
invariant_of-x g c =
    let K = kind g.N.Number.numbers in
    let p = c.args in
    record { inside = search (her_column K p.uplo p.alpha (lent K p.x.now p.vx) (lent K p.a.now p.va)) }

pub her_rows-requires : goal.her_rows-requires
her_rows-requires g c =
    let K = kind g.N.Number.numbers in
    let p = c.args in
    record {
      square = search (her_square K p.uplo p.alpha (lent K p.x.now p.vx) (lent K p.a.now p.va));
      long = search (her_long K p.uplo p.alpha (lent K p.x.now p.vx) (lent K p.a.now p.va));
    }

pub returns-then-passed : goal.returns-then-passed
returns-then-passed g c = search (her_done (kind g.N.Number.numbers))

pub returns-else-passed : goal.returns-else-passed
returns-else-passed g c = search (her_refused (kind g.N.Number.numbers))

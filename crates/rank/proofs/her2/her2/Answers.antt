-- A refused call leaves its slab; a passed one does the update (Kernels: what a passed check gives, her2_refused, her2_done).
use Rattle.number.specs.Kind.{kind}
use Rattle.slabs.specs.Elem.{lent}
use Rattle.rank_plan.proofs.Kernels.{her2_vector_x, her2_vector_y, her2_column_x, her2_column_y, her2_long_x, her2_long_y, her2_square, her2_refused, her2_done}
use Rattle.rank.proofs.her2.her2.Goals as goal

pub column-requires : goal.column-requires
column-requires g c =
    let K = kind g.N.Number.numbers in
    let p = c.args in
    search (her2_vector_x K p.uplo p.alpha (lent K p.x.now p.vx) (lent K p.y.now p.vy) (lent K p.a.now p.va))

pub column-requires-then-passed : goal.column-requires-then-passed
column-requires-then-passed g c =
    let K = kind g.N.Number.numbers in
    let p = c.args in
    search (her2_vector_y K p.uplo p.alpha (lent K p.x.now p.vx) (lent K p.y.now p.vy) (lent K p.a.now p.va))

pub invariant_of-x : goal.invariant_of-x
invariant_of-x g c =
    let K = kind g.N.Number.numbers in
    let p = c.args in
    record { inside = search (her2_column_x K p.uplo p.alpha (lent K p.x.now p.vx) (lent K p.y.now p.vy) (lent K p.a.now p.va)) }

pub invariant_of-y : goal.invariant_of-y
invariant_of-y g c =
    let K = kind g.N.Number.numbers in
    let p = c.args in
    record { inside = search (her2_column_y K p.uplo p.alpha (lent K p.x.now p.vx) (lent K p.y.now p.vy) (lent K p.a.now p.va)) }

pub her2_rows-requires-clause-square : goal.her2_rows-requires-clause-square
her2_rows-requires-clause-square g c =
    let K = kind g.N.Number.numbers in
    let p = c.args in
    search (her2_square K p.uplo p.alpha (lent K p.x.now p.vx) (lent K p.y.now p.vy) (lent K p.a.now p.va))

pub her2_rows-requires-clause-long_x : goal.her2_rows-requires-clause-long_x
her2_rows-requires-clause-long_x g c =
    let K = kind g.N.Number.numbers in
    let p = c.args in
    search (her2_long_x K p.uplo p.alpha (lent K p.x.now p.vx) (lent K p.y.now p.vy) (lent K p.a.now p.va))

pub her2_rows-requires-clause-long_y : goal.her2_rows-requires-clause-long_y
her2_rows-requires-clause-long_y g c =
    let K = kind g.N.Number.numbers in
    let p = c.args in
    search (her2_long_y K p.uplo p.alpha (lent K p.x.now p.vx) (lent K p.y.now p.vy) (lent K p.a.now p.va))

pub returns-then-passed : goal.returns-then-passed
returns-then-passed g c = search (her2_done (kind g.N.Number.numbers))

pub returns-else-passed : goal.returns-else-passed
returns-else-passed g c = search (her2_refused (kind g.N.Number.numbers))

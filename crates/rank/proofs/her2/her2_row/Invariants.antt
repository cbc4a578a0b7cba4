-- The columns of the named triangle before j are changed.
use Rattle.std.proofs.Common.{◌≡◌}
use Rattle.number.specs.Kind.{kind}
use Rattle.slabs.specs.Elem.{elem}
use Rattle.slabs.specs.Update.{span}
use Rattle.blas.specs.Her2.{her2_change}
use Rattle.rank.proofs.her2.her2_row.Given as goal

abbrev pub invariant-loop-j : goal.invariant-loop-j
invariant-loop-j g l =
    let K = kind g.N.Number.numbers in
    l.a ≡ span K l.va (her2_change K l.fn.alpha (elem K l.x.slab.now l.x.view) (elem K l.y.slab.now l.y.view)) l.i l.initial.j l.j l.fn.a

-- The rows before i are changed.
use Rattle.std.proofs.Common.{◌≡◌}
use Rattle.number.specs.Kind.{kind}
use Rattle.view.specs.Triangle.{in_triangle}
use Rattle.slabs.specs.Elem.{elem}
use Rattle.slabs.specs.Update.{update_rows}
use Rattle.blas.specs.Her2.{her2_change}
use Rattle.rank.proofs.her2.her2_rows.Given as goal

abbrev pub invariant-loop-i : goal.invariant-loop-i
invariant-loop-i g l =
    let K = kind g.N.Number.numbers in
    l.a ≡ update_rows K l.va (in_triangle l.uplo) (her2_change K l.alpha (elem K l.x.slab.now l.x.view) (elem K l.y.slab.now l.y.view)) l.i l.fn.a

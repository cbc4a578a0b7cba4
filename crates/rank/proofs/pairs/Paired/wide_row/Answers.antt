-- Block after block of the named triangle (LoopLaws: span-start, span-on; Rows: begins, end_le, row_done). The last block ends where the triangle does.
use Rattle.std.proofs.Common.{◌≡◌, ◌+◌, arith, refl}
use Rattle.number.specs.Kind.{kind}
use Rattle.slabs.proofs.LoopLaws.{span-start, span-on}
use Rattle.rank_plan.proofs.Rows.{end_le, row_done, row_lt, begins}
use Rattle.rank.proofs.pairs.Paired.wide_row.Goals as goal

pub loop-j-init : goal.loop-j-init
loop-j-init g c = (
  begins _ _ c.requires.square _ c.requires.row _ refl _ _ _ c.end_col-end.ensures c.first_col-first.ensures,
  span-start (kind g.N.Number.numbers) _ _ _ _ _,
)

pub loop-j-preserved : goal.loop-j-preserved
loop-j-preserved g c =
    let p = c.args.self.now.plan in
    let within = end_le p.uplo c.args.i p.target.cols (row_lt _ _ c.requires.square _ c.requires.row _ refl) in
    let q : c.loop-j.j + g.row.L ≡ c.block_end-stop.result = omega (arith, within, c.end_col-end.ensures, c.block_start-from.ensures, c.block_end-stop.ensures) in (
      omega arith,
      rw q (span-on (kind g.N.Number.numbers) _ _ _ _ _ _ _ _ _ c.loop-j.auto.j (omega (arith, q)) c.loop-j.invariant.1 c.block.ensures),
    )

pub returns : goal.returns
returns g c =
    row_done (kind g.N.Number.numbers) _ _ _ _ _ _ _ _ _ _ refl (row_lt _ _ c.requires.square _ c.requires.row _ refl) c.first_col-first.ensures c.end_col-end.ensures
    (λ h. c.loop-j.invariant.0)
    (omega arith)
    c.loop-j.invariant.1

pub returns-2 : goal.returns-2
returns-2 g c =
    let p = c.args.self.now.plan in
    let within = end_le p.uplo c.args.i p.target.cols (row_lt _ _ c.requires.square _ c.requires.row _ refl) in
    let q : c.block_end-stop.result ≡ c.end_col-end.result = grind (arith, within, c.end_col-end.ensures, c.block_start-from.ensures, c.block_end-stop.ensures) in
    row_done (kind g.N.Number.numbers) _ _ _ _ _ _ _ _ _ _ refl (row_lt _ _ c.requires.square _ c.requires.row _ refl) c.first_col-first.ensures c.end_col-end.ensures
    (λ h. omega (arith, q))
    (omega (arith, q))
    (span-on (kind g.N.Number.numbers) _ _ _ _ _ _ _ _ _ c.loop-j.auto.j (omega (arith, q)) c.loop-j.invariant.1 c.block.ensures)

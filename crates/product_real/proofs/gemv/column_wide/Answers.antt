-- Block after block is the column (Blocks: column-begun, column-on, column-done).
use Rattle.std.proofs.Common.{arith, refl, ◌+◌}
use Rattle.number.specs.Kind.{kind}
use Rattle.number.specs.Scaling.{scale_by}
use Rattle.product_plan.specs.Plan.{product}
use Rattle.product_plan.proofs.Blocks.{block-of, ends-whole, column-begun, column-on, column-done}
use Rattle.product_plan.proofs.Ready.{accepted-kept}
use Rattle.product_real.proofs.gemv.column_wide.Goals as goal

pub loop-i-init : goal.loop-i-init
loop-i-init g c = column-begun (kind g.R.Number.numbers) _ _ _ _

pub column_sums-requires : goal.column_sums-requires
column_sums-requires g c =
    let r = c.requires in
    (g.met.R.Number.fit 8 (omega arith), (r.0.reads, c.block_start-from.ensures.2, r.1))

pub settle_column-requires : goal.settle_column-requires
settle_column-requires g c =
    let r = c.requires in
    let s = c.block_start-from.ensures in (
      g.met.R.Number.fit 8 (omega arith),
      (accepted-kept _ _ _ (g.met.R.Number.laws.counted c.loop-i.auto.c) r.0.target, r.1, block-of 8 _ _ _ c.args.plan.target.rows _ s (ends-whole 8 _ _ s.2) c.loop-i-test.true),
    )

pub loop-i-preserved : goal.loop-i-preserved
loop-i-preserved g c =
    let n = g.R.Number.numbers in
    let p = c.args in
    column-on (kind n) p.plan.target (scale_by n g.R.Number.multipliers p.ops.now.beta) (g.R.Number.multipliers.times p.ops.now.alpha) (product (kind n) p.plan p.ops.now.a.now p.ops.now.b.now) _
    c.loop-i.i _ _ _ _ _ c.requires.1 c.loop-i-test.true c.block_start-from.ensures c.column_sums.ensures c.loop-i.invariant c.settle_column.ensures

pub returns : goal.returns
returns g c = column-done (kind g.R.Number.numbers) _ _ _ _ _ _ refl (omega arith) c.loop-i.invariant

pub returns-2 : goal.returns-2
returns-2 g c =
    let n = g.R.Number.numbers in
    let p = c.args in
    column-done (kind n) _ _ _ _ (c.loop-i.i + 8) _ refl (omega arith)
    (column-on (kind n) p.plan.target (scale_by n g.R.Number.multipliers p.ops.now.beta) (g.R.Number.multipliers.times p.ops.now.alpha) (product (kind n) p.plan p.ops.now.a.now p.ops.now.b.now) _
    c.loop-i.i _ _ _ _ _ c.requires.1 c.loop-i-test.true c.block_start-from.ensures c.column_sums.ensures c.loop-i.invariant c.settle_column.ensures)

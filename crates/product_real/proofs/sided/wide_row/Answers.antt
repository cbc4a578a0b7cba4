-- Block after block is the row (Blocks: blocks-begun, blocks-next, blocks-done, whole-row).
use Rattle.std.proofs.Common.{arith, ◌+◌}
use Rattle.number.specs.Kind.{kind}
use Rattle.number.specs.Scaling.{scale_by}
use Rattle.product_plan.specs.Plan.{folded_product}
use Rattle.product_plan.proofs.Blocks.{block-of, ends-whole, blocks-begun, blocks-next, blocks-done, whole-row}
use Rattle.product_plan.proofs.Ready.{accepted-kept}
use Rattle.product_real.proofs.sided.wide_row.Goals as goal

pub loop-j-init : goal.loop-j-init
loop-j-init g c = blocks-begun (kind g.R.Number.numbers) _ _ _ _ _ _ (omega arith)

pub side_eight-sums-requires : goal.side_eight-sums-requires
side_eight-sums-requires g c =
    let r = c.requires in
    (g.met.R.Number.fit 8 (omega arith), (r.0.reads, r.1, r.2, c.block_start-from.ensures.2, r.0.target.cols-le))

pub settle_block-requires : goal.settle_block-requires
settle_block-requires g c =
    let r = c.requires in
    let s = c.block_start-from.ensures in (
      g.met.R.Number.fit 8 (omega arith),
      (accepted-kept _ _ _ (g.met.R.Number.laws.counted c.loop-j.auto.c) r.0.target, r.2, block-of 8 _ _ _ c.args.plan.target.cols _ s (ends-whole 8 _ _ s.2) c.loop-j-test.true),
    )

pub loop-j-preserved : goal.loop-j-preserved
loop-j-preserved g c =
    let n = g.R.Number.numbers in
    let p = c.args in
    let s = c.block_start-from.ensures in
    blocks-next (kind n) p.plan.target (scale_by n g.R.Number.multipliers p.ops.now.beta) (g.R.Number.multipliers.times p.ops.now.alpha) (folded_product (kind n) p.plan p.ops.now.a.now p.ops.now.b.now)
    _ 0 p.plan.target.cols p.plan.target.cols _ _ _ _ _ _ _ (omega arith) c.loop-j-test.true (omega arith) s (ends-whole 8 _ _ s.2) c.side_eight-sums.ensures c.loop-j.invariant
    c.settle_block.ensures

pub returns : goal.returns
returns g c = whole-row _ _ _ _ _ _ _ (blocks-done (kind g.R.Number.numbers) _ _ _ _ _ _ _ _ (omega arith) c.loop-j.invariant)

pub returns-2 : goal.returns-2
returns-2 g c =
    let n = g.R.Number.numbers in
    let p = c.args in
    let s = c.block_start-from.ensures in
    whole-row _ _ _ _ _ _ _
    (blocks-done (kind n) _ _ _ _ p.plan.target.cols (c.loop-j.j + 8) _ _ (omega arith)
    (blocks-next (kind n) p.plan.target (scale_by n g.R.Number.multipliers p.ops.now.beta) (g.R.Number.multipliers.times p.ops.now.alpha) (folded_product (kind n) p.plan p.ops.now.a.now p.ops.now.b.now)
    _ 0 p.plan.target.cols p.plan.target.cols _ _ _ _ _ _ _ (omega arith) c.loop-j-test.true (omega arith) s (ends-whole 8 _ _ s.2) c.side_eight-sums.ensures c.loop-j.invariant
    c.settle_block.ensures))

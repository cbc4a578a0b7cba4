-- Block after block, each of eight sums (Lanes: sums-whole; Blocks: blocks-begun, blocks-next, blocks-done).
use Rattle.std.proofs.Common.{arith, ◌+◌}
use Rattle.number.specs.Kind.{kind}
use Rattle.number.specs.Scaling.{scale_by}
use Rattle.product_plan.specs.Plan.{product}
use Rattle.product_plan.proofs.Blocks.{block-of, blocks-begun, blocks-next, blocks-done}
use Rattle.product_plan.proofs.Lanes.{sums-whole}
use Rattle.product_plan.proofs.Ready.{accepted-kept, spans}
use Rattle.product_real.proofs.block.blocks.Goals as goal

pub loop-j-init : goal.loop-j-init
loop-j-init g c = blocks-begun (kind g.R.Number.numbers) _ _ _ _ _ _ c.requires.2

pub zeros-requires : goal.zeros-requires
zeros-requires g c = g.met.R.Number.fit 8 (omega arith)

pub add_eight-sums-requires : goal.add_eight-sums-requires
add_eight-sums-requires g c =
    let r = c.requires in
    (g.met.R.Number.fit 8 (omega arith), spans _ _ _ _ _ _ r.0.reads _ _ _ _ r.1 (omega (arith, c.block_start-from.ensures.2)) (omega arith) (omega arith))

pub settle_block-requires : goal.settle_block-requires
settle_block-requires g c =
    let r = c.requires in (
      g.met.R.Number.fit 8 (omega arith),
      (accepted-kept _ _ _ (g.met.R.Number.laws.counted c.loop-j.auto.c) r.0.target, r.1, block-of 8 _ _ _ c.args.end _ c.block_start-from.ensures c.block_end.ensures c.loop-j-test.true),
    )

pub loop-j-preserved : goal.loop-j-preserved
loop-j-preserved g c =
    let n = g.R.Number.numbers in
    let p = c.args in
    blocks-next (kind n) p.plan.target (scale_by n g.R.Number.multipliers p.ops.now.beta) (g.R.Number.multipliers.times p.ops.now.alpha) (product (kind n) p.plan p.ops.now.a.now p.ops.now.b.now)
    _ _ p.end p.plan.target.cols _ _ _ _ _ _ _ c.loop-j.auto.j c.loop-j-test.true c.requires.3 c.block_start-from.ensures c.block_end.ensures
    (sums-whole (kind n) _ _ c.zeros.ensures _ _ c.add_eight-sums.ensures)
    c.loop-j.invariant
    c.settle_block.ensures

pub returns : goal.returns
returns g c = blocks-done (kind g.R.Number.numbers) _ _ _ _ _ _ _ _ (omega arith) c.loop-j.invariant

pub returns-2 : goal.returns-2
returns-2 g c =
    let n = g.R.Number.numbers in
    let p = c.args in
    blocks-done (kind n) _ _ _ _ p.end (c.loop-j.j + 8) _ _ (omega arith)
    (blocks-next (kind n) p.plan.target (scale_by n g.R.Number.multipliers p.ops.now.beta) (g.R.Number.multipliers.times p.ops.now.alpha) (product (kind n) p.plan p.ops.now.a.now p.ops.now.b.now)
    _ _ p.end p.plan.target.cols _ _ _ _ _ _ _ c.loop-j.auto.j c.loop-j-test.true c.requires.3 c.block_start-from.ensures c.block_end.ensures
    (sums-whole (kind n) _ _ c.zeros.ensures _ _ c.add_eight-sums.ensures)
    c.loop-j.invariant
    c.settle_block.ensures)

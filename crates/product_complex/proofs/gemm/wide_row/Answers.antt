-- Block after block, each of four sums, is the row (Lanes: sums-whole; Blocks: blocks-begun, blocks-next, blocks-done, whole-row).
use Rattle.std.proofs.Common.{arith, rules, ◌+◌}
use Rattle.number.specs.Kind.{complex, complex_numbers}
use Rattle.number.specs.Scaling.{complex_multipliers, scale_by}
use Rattle.number.proofs.Instances.{complex_number-laws}
use Rattle.product_plan.specs.Plan.{product}
use Rattle.product_plan.proofs.Blocks.{block-of, ends-whole, blocks-begun, blocks-next, blocks-done, whole-row}
use Rattle.product_plan.proofs.Lanes.{sums-whole}
use Rattle.product_plan.proofs.Ready.{accepted-kept, spans}
use Rattle.product_complex.proofs.gemm.wide_row.Goals as goal

pub loop-j-init : goal.loop-j-init
loop-j-init c = blocks-begun complex _ _ _ _ _ _ (omega arith)

pub add_lanes-sums-requires : goal.add_lanes-sums-requires
add_lanes-sums-requires c =
    let r = c.requires in
    (search rules, (omega arith, λ t l. spans _ _ _ _ _ _ r.0.reads _ _ _ _ r.1 (omega (arith, c.block_start-from.ensures.2)) (omega arith) (omega arith)))

pub settle_block-requires : goal.settle_block-requires
settle_block-requires c =
    let r = c.requires in
    let s = c.block_start-from.ensures in
    (search rules, (accepted-kept _ _ _ (complex_number-laws.counted c.loop-j.auto.c) r.0.target, r.1, block-of 4 _ _ _ c.args.plan.target.cols _ s (ends-whole 4 _ _ s.2) c.loop-j-test.true))

pub loop-j-preserved : goal.loop-j-preserved
loop-j-preserved c =
    let p = c.args in
    let s = c.block_start-from.ensures in
    blocks-next complex p.plan.target (scale_by complex_numbers complex_multipliers p.ops.now.beta) (complex_multipliers.times p.ops.now.alpha) (product complex p.plan p.ops.now.a.now p.ops.now.b.now) _ 0
    p.plan.target.cols p.plan.target.cols _ _ _ _ _ _ _ (omega arith) c.loop-j-test.true (omega arith) s (ends-whole 4 _ _ s.2) (sums-whole complex _ _ c.zeros.ensures _ _ c.add_lanes-sums.ensures)
    c.loop-j.invariant
    c.settle_block.ensures

pub returns : goal.returns
returns c = whole-row _ _ _ _ _ _ _ (blocks-done complex _ _ _ _ _ _ _ _ (omega arith) c.loop-j.invariant)

pub returns-2 : goal.returns-2
returns-2 c =
    let p = c.args in
    let s = c.block_start-from.ensures in
    whole-row _ _ _ _ _ _ _
    (blocks-done complex _ _ _ _ p.plan.target.cols (c.loop-j.j + 4) _ _ (omega arith)
    (blocks-next complex p.plan.target (scale_by complex_numbers complex_multipliers p.ops.now.beta) (complex_multipliers.times p.ops.now.alpha) (product complex p.plan p.ops.now.a.now p.ops.now.b.now) _ 0
    p.plan.target.cols p.plan.target.cols _ _ _ _ _ _ _ (omega arith) c.loop-j-test.true (omega arith) s (ends-whole 4 _ _ s.2) (sums-whole complex _ _ c.zeros.ensures _ _ c.add_lanes-sums.ensures)
    c.loop-j.invariant
    c.settle_block.ensures))

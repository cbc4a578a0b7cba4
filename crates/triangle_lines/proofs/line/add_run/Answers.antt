-- A turn more of each run (Runs: more_first, more_on).
use Rattle.std.proofs.Common.{◌+◌, rules}
use Rattle.number.specs.Kind.{kind}
use Rattle.slabs.specs.Elem.{elem}
use Rattle.triangle_plan.specs.Multiply.{line_term}
use Rattle.triangle_plan.proofs.Runs.{more_first, more_on}
use Rattle.triangle_lines.proofs.line.add_run.Goals as goal

pub loop-p-init : goal.loop-p-init
loop-p-init g c =
    let p = c.args in
    let K = kind g.N.Number.numbers in
    more_first K g.row.W (λ t. line_term K p.sys p.a.now p.b.now p.q (p.l + t)) p.from p.xs (search rules)

pub loop-p-preserved : goal.loop-p-preserved
loop-p-preserved g c =
    let p = c.args in
    let n = g.N.Number.numbers in
    more_on (kind n) g.row.W (λ t. line_term (kind n) p.sys p.a.now p.b.now p.q (p.l + t)) p.from p.xs c.loop-p.p _ _
    (λ t. n.mul c.elem_conj.result (elem (kind n) p.b.now p.sys.b c.loop-p.p (p.l + t))) c.loop-p.auto.p
    (λ t i. n.mul (c.elem_conj.ensures i) (elem (kind n) p.b.now p.sys.b c.loop-p.p (p.l + t))) c.loop-p.invariant c.plus_lanes-sums.ensures

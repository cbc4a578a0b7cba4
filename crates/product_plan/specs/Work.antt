-- What a plan does with its operands, and when it reads and writes inside the slabs; over a type of numbers.
use Rattle.std.specs.Prelude.{Bool, List}
use Rattle.number.specs.Kind.{Numbers, kind}
use Rattle.number.specs.Scaling.{Multipliers, scale_by}
use Rattle.view.specs.declared.View.{View}
use Rattle.slabs.specs.Update.{Change}
use Rattle.product_plan.specs.declared.operands.Operands.{Operands}
use Rattle.product_plan.specs.declared.plan.Plan.{Plan}
use Rattle.product_plan.specs.declared.plan.Folded.{Folded}
use Rattle.product_plan.specs.Plan.{plan_change, folded_change, across_change, PlanReady, FoldedReads, FoldedReady, AcrossReady}

-- what becomes of an element of the target
abbrev pub plan_work : {C E F M : Type 0} (n : Numbers C E F) → Multipliers n M → Plan → Operands E C F M → Change (kind n)
plan_work n m plan x = plan_change (kind n) plan (scale_by n m x.beta) (m.times x.alpha) x.a.now x.b.now

abbrev pub folded_work : {C E F M : Type 0} (n : Numbers C E F) → Multipliers n M → Folded → Operands E C F M → Change (kind n)
folded_work n m plan x = folded_change (kind n) plan (scale_by n m x.beta) (m.times x.alpha) x.a.now x.b.now

abbrev pub across_work : {C E F M : Type 0} (n : Numbers C E F) → Multipliers n M → Bool → Folded → Operands E C F M → Change (kind n)
across_work n m straight plan x = across_change (kind n) straight plan (scale_by n m x.beta) (m.times x.alpha) x.a.now x.b.now

-- what is read and written is inside
abbrev pub CanRun : {C E F M : Type 0} → Numbers C E F → Plan → Operands E C F M → List C → Type 0
CanRun n plan x c = PlanReady plan (n.count x.a.now) (n.count x.b.now) (n.count c)

abbrev pub CanFold : {C E F M : Type 0} → Numbers C E F → Folded → Operands E C F M → Type 0
CanFold n plan x = FoldedReads plan (n.count x.a.now) (n.count x.b.now)

abbrev pub CanRunFolded : {C E F M : Type 0} → Numbers C E F → Folded → Operands E C F M → List C → Type 0
CanRunFolded n plan x c = FoldedReady plan (n.count x.a.now) (n.count x.b.now) (n.count c)

abbrev pub CanRunAcross : {C E F M : Type 0} → Numbers C E F → Bool → Folded → Operands E C F M → View → List C → Type 0
CanRunAcross n straight plan x v c = AcrossReady straight plan (n.count x.a.now) (n.count x.b.now) v (n.count c)

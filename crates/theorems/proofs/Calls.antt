-- What the theorems say of outcomes holds of the kernels' answers and slabs: their contracts are two equations.
use mathlib.Core.List.{List}
use mathlib.Core.Path.{sym, subst, ◌∙◌}
use Rattle.number.specs.Kind.{Kind}
use Rattle.number.specs.Laws.{SameSlab}
use Rattle.view.specs.declared.View.{View}
use Rattle.slabs.specs.Elem.{Lent}
use Rattle.slabs.specs.Update.{Mask}
use Rattle.blas.specs.Outcome.{Outcome}
use Rattle.theorems.specs.Agreement.{Sees}
use Rattle.theorems.specs.Exactness.{Wholes, Leaves}
use Rattle.theorems.specs.Calls.{AlikeCalls, Kernel, KernelSees, ExactCall}

pub alike-calls : (K : Kind) → AlikeCalls K
alike-calls K o o' r r' after after' g g' = (
  λ s. record {
    answer = g.answer ∙ s.answer ∙ sym g'.answer;
    slab = subst (λ (t : List K.Cell). SameSlab K after t) (sym g'.slab) (subst (λ (t : List K.Cell). SameSlab K t o'.slab) (sym g.slab) s.slab);
  },
  λ e. record {
    answer = sym g.answer ∙ e.answer ∙ g'.answer;
    slab = subst (λ (t : List K.Cell). SameSlab K o.slab t) g'.slab (subst (λ (t : List K.Cell). SameSlab K t after') g.slab e.slab);
  },
)

pub kernel-sees : {K : Kind} {Call : Type 0} {run : Lent K → Call → Outcome K} {Form : View → Type 0} {names : Mask} (k : Kernel K Call run)
    → Sees K Call run Form names → KernelSees K Call run k Form names
kernel-sees {K} k sees a a' shape ca ca' = (
  λ ends. (sees a a' shape ca ca').0 (record { outcome = λ o. (alike-calls K _ _ _ _ _ _ (k.contract a o) (k.contract a' o)).1 (ends o) }),
  λ agree o. (alike-calls K _ _ _ _ _ _ (k.contract a o) (k.contract a' o)).0 (((sees a a' shape ca ca').1 agree).outcome o),
)

pub exact-call : {K Z : Kind} (W : Wholes K Z) → ExactCall W
exact-call {K} W o written target z leaves r after g done =
    subst (λ (s : List K.Cell). Leaves W written s target z) (sym g.slab) (leaves (sym g.answer ∙ done))

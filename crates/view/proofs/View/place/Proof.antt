-- Each step fits, and what the machine reads back from its bits is the number of the formula (Placed: sound).
use Rattle.view.proofs.Words.{◌≡◌, sym, ap, ◌∙◌, subst, ◌^◌, ◌<◌, arith, T, ℤ, pos, nat_abs, ◌+ℤ◌, ◌*ℤ◌, non_neg, w64, Fits, SFits, to_z, of_z, to_z-of_z, to_z_pos, index, Sound, sound}
use Rattle.view.proofs.View.place.Statement.{statement}
use Rattle.view.proofs.View.place.Tie as tie

all : (s : tie.Start) → Sound s.args.self s.args.r s.args.c
all s = sound s.args.self s.args.r s.args.c s.requires

in-range : (s : tie.Start) → Fits w64 (index s.args.self s.args.r s.args.c)
in-range s =
    let h : index s.args.self s.args.r s.args.c < 2 ^ 63 = (subst (SFits w64) (all s).is (all s).whole).sfits in
    record { fits = omega arith }

-- the strides
rs-is : (c : tie.After-struct_told-1) → to_z w64 (of_z w64 c.args.self.rs) ≡ c.args.self.rs
rs-is c = to_z-of_z {w = w64} {z = c.args.self.rs} (record { sfits = c.struct_told-1.given.1.1.1.0.1 })

cs-is : (c : tie.After-struct_told-2-1) → to_z w64 (of_z w64 c.args.self.cs) ≡ c.args.self.cs
cs-is c = to_z-of_z {w = w64} {z = c.args.self.cs} (record { sfits = c.struct_told-2-1.given.1.1.1.1.0.1 })

-- the start and the steps down the rows
row_is : (c : tie.After-steps) → to_z w64 (of_z w64 c.steps.result) ≡ pos c.args.r *ℤ c.args.self.rs
row_is c =
    let s = c.before.before.before in
    let e = c.steps.ensures ∙ ap (λ (z : ℤ). pos s.args.r *ℤ z) (rs-is c.before) in
    to_z-of_z {w = w64} {z = c.steps.result} (subst (SFits w64) (sym e) (all s).row) ∙ e

part : (c : tie.After-steps) → (let s = c.before.before.before in to_z w64 s.args.self.start +ℤ to_z w64 (of_z w64 c.steps.result) ≡ pos s.args.self.start +ℤ pos s.args.r *ℤ s.args.self.rs)
part c =
    let s = c.before.before.before in
    λ i. to_z_pos w64 s.args.self.start (all s).start-lt i +ℤ row_is c i

add-result : tie.Need-overflow_add-result
add-result c = subst (SFits w64) (sym (part c)) (all c.before.before.before).part

-- the whole sum
col-is : (c : tie.After-steps-2) → (let s = c.before.before.before.before.before in to_z w64 (of_z w64 c.steps-2.result) ≡ pos s.args.c *ℤ s.args.self.cs)
col-is c =
    let s = c.before.before.before.before.before in
    let e = c.steps-2.ensures ∙ ap (λ (z : ℤ). pos s.args.c *ℤ z) (cs-is c.before) in
    to_z-of_z {w = w64} {z = c.steps-2.result} (subst (SFits w64) (sym e) (all s).col) ∙ e

total : (c : tie.After-steps-2) → (let s = c.before.before.before.before.before in to_z w64 (of_z w64 (to_z w64 s.args.self.start +ℤ to_z w64 (of_z w64 c.steps.result))) +ℤ to_z w64 (of_z w64 c.steps-2.result) ≡ pos s.args.self.start +ℤ pos s.args.r *ℤ s.args.self.rs +ℤ pos s.args.c *ℤ s.args.self.cs)
total c =
    let p = to_z-of_z (add-result c.before.before) ∙ part c.before.before in
    λ i. p i +ℤ col-is c i

add-result-2 : tie.Need-overflow_add-result-2
add-result-2 c = subst (SFits w64) (sym (total c)) (all c.before.before.before.before.before).whole

pub place_spec : {M : Type 1} → statement M
place_spec = tie.close (tie.spec
    (λ c. record { sfits = (all c.before).start-lt })
    (λ c κs. let s = c.before.before in ((all s).row_lt, subst (λ (z : ℤ). SFits w64 (pos s.args.r *ℤ z)) (sym (rs-is c)) (all s).row)) add-result
    (λ c κs. let s = c.before.before.before.before in ((all s).col-lt, subst (λ (z : ℤ). SFits w64 (pos s.args.c *ℤ z)) (sym (cs-is c)) (all s).col))
    add-result-2
    (λ c. let s = c.before.before.before.before.before in subst (λ (z : ℤ). T (non_neg z) × Fits w64 (nat_abs z)) (sym (to_z-of_z (add-result-2 c) ∙ total c ∙ (all s).is)) (tt, in-range s))
    (λ c. ap nat_abs (to_z-of_z (add-result-2 c) ∙ total c ∙ (all c.before.before.before.before.before).is)))

-- What a kernel has to show of its two ways out: refused, and done.
use mathlib.Core.Bool.{Bool, true, false}
use mathlib.Core.List.{List}
use mathlib.Core.Path.{◌≡◌, refl, sym, subst, ◌∙◌}
use lib.Dec.{T}
use Rattle.number.specs.Kind.{Kind}
use Rattle.view.specs.declared.Answer.{Answer}
use Rattle.view.specs.declared.Answer.TheVariants.{Done, TooLarge, OutOfBounds, ShapeMismatch, Overlap, Singular}
use Rattle.view.specs.Judge.{is_done}
use Rattle.blas.specs.Outcome.{outcome, Gives}

-- a check that is not refused is done
pub done-is : (a : Answer) → is_done a ≡ true → a ≡ Done
done-is Done h = refl
done-is TooLarge h = cc
done-is OutOfBounds h = cc
done-is ShapeMismatch h = cc
done-is Overlap h = cc
done-is Singular h = cc

pub check_done : (check r : Answer) (flag : Bool) → r ≡ check → flag ≡ is_done r → flag ≡ true → check ≡ Done
check_done check r flag e d h = sym e ∙ done-is r (sym d ∙ h)

module _ (K : Kind) (work entry : List K.Cell) where
  stays : (a : Answer) → is_done a ≡ false → Gives K (outcome K a work entry) a entry
  stays Done h = absurd (clash h)
    where
      clash : true ≡ false → ⊥
      clash e = subst T e tt
  stays TooLarge h = record { answer = refl; slab = refl }
  stays OutOfBounds h = record { answer = refl; slab = refl }
  stays ShapeMismatch h = record { answer = refl; slab = refl }
  stays Overlap h = record { answer = refl; slab = refl }
  stays Singular h = record { answer = refl; slab = refl }

  -- r is the check's answer, the flag says that it is a refusal, and no more was done
  pub gives-refusal : (check r : Answer) (flag : Bool) → r ≡ check → flag ≡ is_done r → flag ≡ false → Gives K (outcome K check work entry) r entry
  gives-refusal check r flag e d h = subst (λ (a : Answer). Gives K (outcome K a work entry) r entry) e (stays r (sym d ∙ h))

  -- r is the check's answer, the flag says that it is no refusal, and the work is done
  pub gives-work : (check r : Answer) (flag : Bool) (after : List K.Cell) → r ≡ check → flag ≡ is_done r → flag ≡ true → after ≡ work
      → Gives K (outcome K check work entry) r after
  gives-work check r flag after e d h w =
      subst (λ (a : Answer). Gives K (outcome K a work entry) r after) e
      (subst (λ (a : Answer). Gives K (outcome K a work entry) a after) (sym (done-is r (sym d ∙ h))) (record { answer = refl; slab = w }))

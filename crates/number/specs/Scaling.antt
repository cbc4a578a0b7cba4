-- Scaling a target by beta (document 01: "beta 0 writes ZERO unread, beta 1 writes nothing, else target becomes beta times target").
use Rattle.std.specs.Prelude.{Bool, cond, Float, ◌≡◌, refl}
use Rattle.std.specs.Float.{Format}
use Rattle.std.specs.Float.Ieee.{mul}
use Rattle.number.specs.Kind.{Kind, Numbers, real_numbers, complex_numbers}
use Rattle.number.specs.declared.Beta.{Beta}
use Rattle.number.specs.declared.Complex.{Complex}
use Rattle.number.specs.declared.Multiplier.{Multiplier}

abbrev pub scaled : (K : Kind) → K.Elem → K.Elem → K.Elem
scaled K beta x = cond (K.is_zero beta) K.zero (cond (K.is_one beta) x (K.mul beta x))

-- the same with a real beta, judged on the real number
abbrev pub scaled_real : (K : Kind) → K.Factor → K.Elem → K.Elem
scaled_real K beta x = cond (K.is_zero_factor beta) K.zero (cond (K.is_one_factor beta) x (K.scale_real beta x))

-- ---- what an element is multiplied by

-- M stands for an element, or for a real factor
pub record Multipliers {C E F : Type 0} (n : Numbers C E F) (M : Type 0) : Type 0 where
  pub number : E → M
  pub real : F → M
  pub times : M → E → E
  pub number-times : (b x : E) → times (number b) x ≡ n.mul b x
  pub real-times : (v : F) (x : E) → times (real v) x ≡ n.scale_real v x

-- of the real kinds: the number, or the factor, itself
abbrev pub real_multipliers : (f : Format) → Multipliers (real_numbers f) Float
real_multipliers f =
    record { number = λ b. b; real = λ v. v; times = mul f; number-times = λ b x. refl; real-times = λ v x. refl }

-- a complex number times a complex one, or times a real factor
abbrev pub times : Multiplier → Complex → Complex
times (Multiplier.Number b) x = complex_numbers.mul b x
times (Multiplier.Real v) x = complex_numbers.scale_real v x

abbrev pub complex_multipliers : Multipliers complex_numbers Multiplier
complex_multipliers =
    record {
      number = Multiplier.Number;
      real = Multiplier.Real;
      times = times;
      number-times = λ b x. refl;
      real-times = λ v x. refl;
    }

-- ---- beta judged once

-- the answer for zero, for one, and for any other number
abbrev pub judged : {A : Type 0} → Bool → Bool → A → A → A → A
judged is_zero is_one clear keep factor = cond is_zero clear (cond is_one keep factor)

abbrev pub beta_of : {C E F M : Type 0} → (n : Numbers C E F) → Multipliers n M → E → Beta M
beta_of n m b = judged (n.is_zero b) (n.is_one b) Beta.Clear Beta.Keep (Beta.Factor (m.number b))

-- of a real beta, on the real number
abbrev pub beta_real_of : {C E F M : Type 0} → (n : Numbers C E F) → Multipliers n M → F → Beta M
beta_real_of n m v = judged (n.is_zero_factor v) (n.is_one_factor v) Beta.Clear Beta.Keep (Beta.Factor (m.real v))

-- what each judgement does to an element
abbrev pub scale_by : {C E F M : Type 0} → (n : Numbers C E F) → Multipliers n M → Beta M → E → E
scale_by n m Beta.Clear x = n.zero
scale_by n m Beta.Keep x = x
scale_by n m (Beta.Factor f) x = m.times f x

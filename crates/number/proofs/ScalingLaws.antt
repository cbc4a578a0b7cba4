-- Scaling by beta judged once is scaling by beta.
use mathlib.Core.Bool.{Bool, true, false, cond}
use mathlib.Core.Path.{◌≡◌, refl, fun_ext}
use Rattle.number.specs.Kind.{Numbers, kind}
use Rattle.number.specs.Scaling.{scaled, scaled_real, Multipliers, judged, beta_of, beta_real_of, scale_by}
use Rattle.number.specs.declared.Beta.TheVariants as Beta

-- what is done with a judgement is done with each of its cases
cases : {B E : Type 0} (f : B → E → E) (z o : Bool) (clear keep factor : B) (x y : E) → f factor x ≡ y
    → f (judged z o clear keep factor) x ≡ cond z (f clear x) (cond o (f keep x) y)
cases f true o clear keep factor x y e = refl
cases f false true clear keep factor x y e = refl
cases f false false clear keep factor x y e = e

pub scale-by : {C E F M : Type 0} (n : Numbers C E F) (m : Multipliers n M) (b : E) → scale_by n m (beta_of n m b) ≡ scaled (kind n) b
scale-by n m b =
    fun_ext (λ x. cases (scale_by n m) (n.is_zero b) (n.is_one b) Beta.Clear Beta.Keep (Beta.Factor (m.number b)) x (n.mul b x) (m.number-times b x))

pub scale-by-real : {C E F M : Type 0} (n : Numbers C E F) (m : Multipliers n M) (v : F) → scale_by n m (beta_real_of n m v) ≡ scaled_real (kind n) v
scale-by-real n m v =
    fun_ext (λ x. cases (scale_by n m) (n.is_zero_factor v) (n.is_one_factor v) Beta.Clear Beta.Keep (Beta.Factor (m.real v)) x (n.scale_real v x) (m.real-times v x))

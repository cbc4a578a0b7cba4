-- What a call's judged beta and its alpha as a multiplier do to an element.
use mathlib.Core.Path.{◌≡◌, ap, fun_ext, ◌∙◌}
use Rattle.number.specs.Kind.{Numbers, kind}
use Rattle.number.specs.Scaling.{scaled, scaled_real, Multipliers, beta_of, beta_real_of, scale_by}
use Rattle.number.specs.declared.Beta.{Beta}
use Rattle.number.proofs.ScalingLaws.{scale-by, scale-by-real}

module _ {C E F M : Type 0} (n : Numbers C E F) (m : Multipliers n M) where
  pub by-beta : (b : E) (r : Beta M) → r ≡ beta_of n m b → scale_by n m r ≡ scaled (kind n) b
  by-beta b r e = ap (scale_by n m) e ∙ scale-by n m b

  pub by-alpha : (b : E) (r : M) → r ≡ m.number b → m.times r ≡ n.mul b
  by-alpha b r e = ap m.times e ∙ fun_ext (m.number-times b)

  -- of real factors
  pub by-real-beta : (v : F) (r : Beta M) → r ≡ beta_real_of n m v → scale_by n m r ≡ scaled_real (kind n) v
  by-real-beta v r e = ap (scale_by n m) e ∙ scale-by-real n m v

  pub by-real-alpha : (v : F) (r : M) → r ≡ m.real v → m.times r ≡ n.scale_real v
  by-real-alpha v r e = ap m.times e ∙ fun_ext (m.real-times v)

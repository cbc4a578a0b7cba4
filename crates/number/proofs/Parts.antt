-- What is said of a complex number is said of its two parts: equal as numbers, held, finite, and the same value.
use mathlib.Core.Path.{◌≡◌}
use lib.Ieee.{binary64, fits}
use lib.Ieee.Fits.{and_i, and_l, and_r}
use Rattle.number.specs.Kind.{Same, Holds, Finite, real64, complex, same_float, finite_float}
use Rattle.number.specs.declared.Complex.{Complex}

pub equal : {x y : Complex} → x.re ≡ y.re → x.im ≡ y.im → x ≡ y
equal p q = λ i. record { re = p i; im = q i }

pub same : {x y : Complex} → Same real64 x.re y.re → Same real64 x.im y.im → Same complex x y
same {x} {y} p q = record { same = and_i (same_float x.re y.re) (same_float x.im y.im) p.same q.same }

pub same-re : {x y : Complex} → Same complex x y → Same real64 x.re y.re
same-re {x} {y} h = record { same = and_l (same_float x.re y.re) (same_float x.im y.im) h.same }

pub same-im : {x y : Complex} → Same complex x y → Same real64 x.im y.im
same-im {x} {y} h = record { same = and_r (same_float x.re y.re) (same_float x.im y.im) h.same }

pub holds : {x : Complex} → Holds real64 x.re → Holds real64 x.im → Holds complex x
holds {x} p q = record { holds = and_i (fits binary64 x.re) (fits binary64 x.im) p.holds q.holds }

pub holds-re : {x : Complex} → Holds complex x → Holds real64 x.re
holds-re {x} h = record { holds = and_l (fits binary64 x.re) (fits binary64 x.im) h.holds }

pub holds-im : {x : Complex} → Holds complex x → Holds real64 x.im
holds-im {x} h = record { holds = and_r (fits binary64 x.re) (fits binary64 x.im) h.holds }

pub finite : {x : Complex} → Finite real64 x.re → Finite real64 x.im → Finite complex x
finite {x} p q = record { finite = and_i (finite_float x.re) (finite_float x.im) p.finite q.finite }

pub finite-re : {x : Complex} → Finite complex x → Finite real64 x.re
finite-re {x} h = record { finite = and_l (finite_float x.re) (finite_float x.im) h.finite }

pub finite-im : {x : Complex} → Finite complex x → Finite real64 x.im
finite-im {x} h = record { finite = and_r (finite_float x.re) (finite_float x.im) h.finite }

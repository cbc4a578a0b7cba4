-- The integers and the Gaussian integers are rings.
use mathlib.Core.Bool.{true, false≢true, and-eq-true_iff, ◌&&◌}
use mathlib.Core.Path.{◌≡◌, refl, sym, ap, subst, ◌∙◌}
use lib.IntN.{ℤ, one, pos, negsuc, suc_ℤ, pred_ℤ, neg_ℤ, ◌+ℤ◌, ◌-ℤ◌, ◌*ℤ◌, suc_ℤ-+ℤ, pred_ℤ-+ℤ, +ℤ_idl, +ℤ_idr, +ℤ_one, -ℤ_one, +ℤ_assoc, +ℤ_comm, +ℤ_invl, +ℤ-neg_ℤ_cancel, neg_ℤ-+ℤ, ℤ_ind, zero-*ℤ, *ℤ-zero, suc_ℤ-*ℤ, pred_ℤ-*ℤ, *ℤ_comm, *ℤ-one}
use borrow.Author.Tests.{eqb-true}
use Rattle.number.specs.Integers.{Gaussian, integers, gaussian, same_integer}
use Rattle.theorems.proofs.Rings.{Ring, exchange}

-- ---- integers

-- induction by one more and one less
by-steps : (P : ℤ → Type 0) → P (pos 0) → ((z : ℤ) → P z → P (suc_ℤ z)) → ((z : ℤ) → P z → P (pred_ℤ z)) → (z : ℤ) → P z
by-steps P base more fewer =
    ℤ_ind P base
    (λ n h. subst P (sym (+ℤ_one (pos n))) (more (pos n) h))
    (λ n h. subst P (sym (-ℤ_one (neg_ℤ (pos n)))) (fewer (neg_ℤ (pos n)) h))

swap : (a b c d : ℤ) → a +ℤ b +ℤ (c +ℤ d) ≡ a +ℤ c +ℤ (b +ℤ d)
swap = exchange ◌+ℤ◌ +ℤ_assoc +ℤ_comm

-- the last two summands exchanged
last-two : (a b c : ℤ) → a +ℤ b +ℤ c ≡ a +ℤ c +ℤ b
last-two a b c = +ℤ_assoc a b c ∙ ap (λ (z : ℤ). a +ℤ z) (+ℤ_comm b c) ∙ sym (+ℤ_assoc a c b)

add_times : (a b c : ℤ) → (a +ℤ b) *ℤ c ≡ a *ℤ c +ℤ b *ℤ c
add_times a b c =
    by-steps (λ (z : ℤ). (z +ℤ b) *ℤ c ≡ z *ℤ c +ℤ b *ℤ c)
    (ap (λ (z : ℤ). z *ℤ c) (+ℤ_idl b) ∙ sym (+ℤ_idl (b *ℤ c)) ∙ ap (λ (z : ℤ). z +ℤ b *ℤ c) (sym (zero-*ℤ c)))
    (λ z h. ap (λ (w : ℤ). w *ℤ c) (suc_ℤ-+ℤ z b) ∙ suc_ℤ-*ℤ (z +ℤ b) c ∙ ap (λ (w : ℤ). w +ℤ c) h ∙ last-two (z *ℤ c) (b *ℤ c) c
    ∙ ap (λ (w : ℤ). w +ℤ b *ℤ c) (sym (suc_ℤ-*ℤ z c)))
    (λ z h. ap (λ (w : ℤ). w *ℤ c) (pred_ℤ-+ℤ z b) ∙ pred_ℤ-*ℤ (z +ℤ b) c ∙ ap (λ (w : ℤ). w -ℤ c) h ∙ last-two (z *ℤ c) (b *ℤ c) (neg_ℤ c)
    ∙ ap (λ (w : ℤ). w +ℤ b *ℤ c) (sym (pred_ℤ-*ℤ z c)))
    a

neg-times : (a b : ℤ) → neg_ℤ a *ℤ b ≡ neg_ℤ (a *ℤ b)
neg-times a b =
    sym (+ℤ-neg_ℤ_cancel (neg_ℤ a *ℤ b) (a *ℤ b))
    ∙ ap (λ (z : ℤ). z -ℤ a *ℤ b) (sym (add_times (neg_ℤ a) a b) ∙ ap (λ (z : ℤ). z *ℤ b) (+ℤ_invl a) ∙ zero-*ℤ b)
    ∙ +ℤ_idl (neg_ℤ (a *ℤ b))

sub-times : (a b c : ℤ) → (a -ℤ b) *ℤ c ≡ a *ℤ c -ℤ b *ℤ c
sub-times a b c = add_times a (neg_ℤ b) c ∙ ap (λ (z : ℤ). a *ℤ c +ℤ z) (neg-times b c)

times-add : (a b c : ℤ) → a *ℤ (b +ℤ c) ≡ a *ℤ b +ℤ a *ℤ c
times-add a b c = *ℤ_comm a (b +ℤ c) ∙ add_times b c a ∙ (λ i. *ℤ_comm b a i +ℤ *ℤ_comm c a i)

times-sub : (a b c : ℤ) → a *ℤ (b -ℤ c) ≡ a *ℤ b -ℤ a *ℤ c
times-sub a b c = *ℤ_comm a (b -ℤ c) ∙ sub-times b c a ∙ (λ i. *ℤ_comm b a i -ℤ *ℤ_comm c a i)

times-assoc : (a b c : ℤ) → a *ℤ b *ℤ c ≡ a *ℤ (b *ℤ c)
times-assoc a b c =
    by-steps (λ (z : ℤ). z *ℤ b *ℤ c ≡ z *ℤ (b *ℤ c))
    (ap (λ (z : ℤ). z *ℤ c) (zero-*ℤ b) ∙ zero-*ℤ c ∙ sym (zero-*ℤ (b *ℤ c)))
    (λ z h. ap (λ (w : ℤ). w *ℤ c) (suc_ℤ-*ℤ z b) ∙ add_times (z *ℤ b) b c ∙ ap (λ (w : ℤ). w +ℤ b *ℤ c) h ∙ sym (suc_ℤ-*ℤ z (b *ℤ c)))
    (λ z h. ap (λ (w : ℤ). w *ℤ c) (pred_ℤ-*ℤ z b) ∙ sub-times (z *ℤ b) b c ∙ ap (λ (w : ℤ). w -ℤ b *ℤ c) h ∙ sym (pred_ℤ-*ℤ z (b *ℤ c)))
    a

one-times : (z : ℤ) → pos 1 *ℤ z ≡ z
unfolding one
one-times z = *ℤ_comm (pos 1) z ∙ *ℤ-one z

is_same : (z w : ℤ) → same_integer z w ≡ true → z ≡ w
is_same (pos m) (pos n) h = ap pos (eqb-true m n h)
is_same (pos m) (negsuc n) h = absurd (false≢true h)
is_same (negsuc m) (pos n) h = absurd (false≢true h)
is_same (negsuc m) (negsuc n) h = ap negsuc (eqb-true m n h)

zero-scale : (v z : ℤ) → same_integer v (pos 0) ≡ true → v *ℤ z ≡ pos 0
zero-scale v z h = ap (λ (x : ℤ). x *ℤ z) (is_same v (pos 0) h) ∙ zero-*ℤ z

one-scale : (v z : ℤ) → same_integer v (pos 1) ≡ true → v *ℤ z ≡ z
one-scale v z h = ap (λ (x : ℤ). x *ℤ z) (is_same v (pos 1) h) ∙ one-times z

pub integers-ring : Ring integers
integers-ring =
    record {
      add-zero = +ℤ_idr;
      add_assoc = +ℤ_assoc;
      add_comm = +ℤ_comm;
      mul-zero = *ℤ-zero;
      zero-mul = zero-*ℤ;
      one-mul = one-times;
      mul_assoc = times-assoc;
      mul-add = times-add;
      scale-mul = times-assoc;
      zero-scale = zero-scale;
      one-scale = one-scale;
      is-zero = λ a. is_same a (pos 0);
      is_one = λ a. is_same a (pos 1);
      conj-zero = refl;
      conj-one = refl;
    }

-- ---- Gaussian integers, part by part

product-assoc : (a b c : Gaussian) → gaussian.mul (gaussian.mul a b) c ≡ gaussian.mul a (gaussian.mul b c)
product-assoc a b c = λ i. record { re = real i; im = imaginary i }
  where
    real : (a.re *ℤ b.re -ℤ a.im *ℤ b.im) *ℤ c.re -ℤ (a.re *ℤ b.im +ℤ a.im *ℤ b.re) *ℤ c.im
        ≡ a.re *ℤ (b.re *ℤ c.re -ℤ b.im *ℤ c.im) -ℤ a.im *ℤ (b.re *ℤ c.im +ℤ b.im *ℤ c.re)
    real =
        let p = a.re *ℤ (b.re *ℤ c.re) in
        let q = a.im *ℤ (b.im *ℤ c.re) in
        let r = a.re *ℤ (b.im *ℤ c.im) in
        let s = a.im *ℤ (b.re *ℤ c.im) in
        (λ i. sub-times (a.re *ℤ b.re) (a.im *ℤ b.im) c.re i -ℤ add_times (a.re *ℤ b.im) (a.im *ℤ b.re) c.im i)
        ∙ (λ i. times-assoc a.re b.re c.re i -ℤ times-assoc a.im b.im c.re i -ℤ (times-assoc a.re b.im c.im i +ℤ times-assoc a.im b.re c.im i))
        ∙ ap (λ (z : ℤ). p -ℤ q +ℤ z) (neg_ℤ-+ℤ r s)
        ∙ swap p (neg_ℤ q) (neg_ℤ r) (neg_ℤ s)
        ∙ ap (λ (z : ℤ). p -ℤ r +ℤ z) (+ℤ_comm (neg_ℤ q) (neg_ℤ s) ∙ sym (neg_ℤ-+ℤ s q))
        ∙ (λ i. sym (times-sub a.re (b.re *ℤ c.re) (b.im *ℤ c.im)) i -ℤ sym (times-add a.im (b.re *ℤ c.im) (b.im *ℤ c.re)) i)

    imaginary : (a.re *ℤ b.re -ℤ a.im *ℤ b.im) *ℤ c.im +ℤ (a.re *ℤ b.im +ℤ a.im *ℤ b.re) *ℤ c.re
        ≡ a.re *ℤ (b.re *ℤ c.im +ℤ b.im *ℤ c.re) +ℤ a.im *ℤ (b.re *ℤ c.re -ℤ b.im *ℤ c.im)
    imaginary =
        let p = a.re *ℤ (b.re *ℤ c.im) in
        let q = a.im *ℤ (b.im *ℤ c.im) in
        let r = a.re *ℤ (b.im *ℤ c.re) in
        let s = a.im *ℤ (b.re *ℤ c.re) in
        (λ i. sub-times (a.re *ℤ b.re) (a.im *ℤ b.im) c.im i +ℤ add_times (a.re *ℤ b.im) (a.im *ℤ b.re) c.re i)
        ∙ (λ i. times-assoc a.re b.re c.im i -ℤ times-assoc a.im b.im c.im i +ℤ (times-assoc a.re b.im c.re i +ℤ times-assoc a.im b.re c.re i))
        ∙ swap p (neg_ℤ q) r s
        ∙ ap (λ (z : ℤ). p +ℤ r +ℤ z) (+ℤ_comm (neg_ℤ q) s)
        ∙ (λ i. sym (times-add a.re (b.re *ℤ c.im) (b.im *ℤ c.re)) i +ℤ sym (times-sub a.im (b.re *ℤ c.re) (b.im *ℤ c.im)) i)

product-add : (a b c : Gaussian) → gaussian.mul a (gaussian.add b c) ≡ gaussian.add (gaussian.mul a b) (gaussian.mul a c)
product-add a b c = λ i. record { re = real i; im = imaginary i }
  where
    real : a.re *ℤ (b.re +ℤ c.re) -ℤ a.im *ℤ (b.im +ℤ c.im) ≡ a.re *ℤ b.re -ℤ a.im *ℤ b.im +ℤ (a.re *ℤ c.re -ℤ a.im *ℤ c.im)
    real =
        (λ i. times-add a.re b.re c.re i -ℤ times-add a.im b.im c.im i)
        ∙ ap (λ (z : ℤ). a.re *ℤ b.re +ℤ a.re *ℤ c.re +ℤ z) (neg_ℤ-+ℤ (a.im *ℤ b.im) (a.im *ℤ c.im))
        ∙ swap (a.re *ℤ b.re) (a.re *ℤ c.re) (neg_ℤ (a.im *ℤ b.im)) (neg_ℤ (a.im *ℤ c.im))

    imaginary : a.re *ℤ (b.im +ℤ c.im) +ℤ a.im *ℤ (b.re +ℤ c.re) ≡ a.re *ℤ b.im +ℤ a.im *ℤ b.re +ℤ (a.re *ℤ c.im +ℤ a.im *ℤ c.re)
    imaginary =
        (λ i. times-add a.re b.im c.im i +ℤ times-add a.im b.re c.re i)
        ∙ swap (a.re *ℤ b.im) (a.re *ℤ c.im) (a.im *ℤ b.re) (a.im *ℤ c.re)

scaled-product : (v : ℤ) (a b : Gaussian) → gaussian.mul (gaussian.scale_real v a) b ≡ gaussian.scale_real v (gaussian.mul a b)
scaled-product v a b = λ i. record {
  re = ((λ k. times-assoc v a.re b.re k -ℤ times-assoc v a.im b.im k) ∙ sym (times-sub v (a.re *ℤ b.re) (a.im *ℤ b.im))) i;
  im = ((λ k. times-assoc v a.re b.im k +ℤ times-assoc v a.im b.re k) ∙ sym (times-add v (a.re *ℤ b.im) (a.im *ℤ b.re))) i;
}

is-parts : (a : Gaussian) (x y : ℤ) → same_integer a.re x && same_integer a.im y ≡ true → a ≡ record { re = x; im = y }
is-parts a x y h =
    let e = (and-eq-true_iff (same_integer a.re x) (same_integer a.im y)).0 h in
    λ i. record { re = is_same a.re x e.0 i; im = is_same a.im y e.1 i }

pub gaussian-ring : Ring gaussian
gaussian-ring =
    record {
      add-zero = λ a i. record { re = +ℤ_idr a.re i; im = +ℤ_idr a.im i };
      add_assoc = λ a b c i. record { re = +ℤ_assoc a.re b.re c.re i; im = +ℤ_assoc a.im b.im c.im i };
      add_comm = λ a b i. record { re = +ℤ_comm a.re b.re i; im = +ℤ_comm a.im b.im i };
      mul-zero = λ a i. record { re = *ℤ-zero a.re i -ℤ *ℤ-zero a.im i; im = *ℤ-zero a.re i +ℤ *ℤ-zero a.im i };
      zero-mul = λ a i. record { re = zero-*ℤ a.re i -ℤ zero-*ℤ a.im i; im = zero-*ℤ a.im i +ℤ zero-*ℤ a.re i };
      one-mul = λ a. (λ i. record { re = one-times a.re i -ℤ zero-*ℤ a.im i; im = one-times a.im i +ℤ zero-*ℤ a.re i })
          ∙ (λ i. record { re = +ℤ_idr a.re i; im = +ℤ_idr a.im i });
      mul_assoc = product-assoc;
      mul-add = product-add;
      scale-mul = scaled-product;
      zero-scale = λ v a h i. record { re = zero-scale v a.re h i; im = zero-scale v a.im h i };
      one-scale = λ v a h i. record { re = one-scale v a.re h i; im = one-scale v a.im h i };
      is-zero = λ a h. is-parts a (pos 0) (pos 0) h;
      is_one = λ a h. is-parts a (pos 1) (pos 0) h;
      conj-zero = refl;
      conj-one = refl;
    }

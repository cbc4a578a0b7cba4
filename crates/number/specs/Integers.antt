-- Whole numbers as kinds: `integers` beside the real kinds and `gaussian` beside `complex`. Their operations are exact, so a routine's
-- formula over one of them is the papers' formula over whole numbers. A quotient is cut toward zero. Their cells have any size, and no number of bytes.
use Rattle.std.specs.Prelude.{ℕ, suc, ◌+◌, ◌*◌, ◌/◌, Bool, true, false, ◌&&◌, eqb, Float, ℤ, pos, negsuc, neg_ℤ, nat_abs, ◌+ℤ◌, ◌-ℤ◌, ◌*ℤ◌, length, get_or, set}
use Rattle.std.specs.Float.{fin}
use Rattle.std.specs.Int.Signed.{quot_z}
use Rattle.number.specs.Kind.{Kind}
use Rattle.number.specs.declared.Complex.{Complex}

abbrev pub same_integer : ℤ → ℤ → Bool
same_integer (pos m) (pos n) = eqb m n
same_integer (pos m) (negsuc n) = false
same_integer (negsuc m) (pos n) = false
same_integer (negsuc m) (negsuc n) = eqb m n

abbrev pub integers : Kind
integers =
    record {
      Cell = ℤ;
      Elem = ℤ;
      Factor = ℤ;
      zero = pos 0;
      one = pos 1;
      add = ◌+ℤ◌;
      sub = ◌-ℤ◌;
      mul = ◌*ℤ◌;
      div = quot_z;
      conj = λ z. z;
      is_zero = λ z. same_integer z (pos 0);
      is_one = λ z. same_integer z (pos 1);
      from_real = λ v. v;
      scale_real = ◌*ℤ◌;
      is_zero_factor = λ v. same_integer v (pos 0);
      is_one_factor = λ v. same_integer v (pos 1);
      width = 1;
      bytes = 0;
      count = λ s. length s;
      at = λ s k. get_or s k (pos 0);
      put = λ s k z. set s k z;
      holds_cell = λ z. true;
      holds = λ z. true;
      same_cell = same_integer;
      same = same_integer;
      same_factor = same_integer;
      finite = λ z. true;
    }

pub record Gaussian : Type 0 where
  pub re : ℤ
  pub im : ℤ

abbrev pub mul_gaussian : Gaussian → Gaussian → Gaussian
mul_gaussian a b = record { re = a.re *ℤ b.re -ℤ a.im *ℤ b.im; im = a.re *ℤ b.im +ℤ a.im *ℤ b.re }

abbrev pub squares_gaussian : Gaussian → ℤ
squares_gaussian d = d.re *ℤ d.re +ℤ d.im *ℤ d.im

abbrev pub gaussian : Kind
gaussian =
    record {
      Cell = ℤ;
      Elem = Gaussian;
      Factor = ℤ;
      zero = record { re = pos 0; im = pos 0 };
      one = record { re = pos 1; im = pos 0 };
      add = λ a b. record { re = a.re +ℤ b.re; im = a.im +ℤ b.im };
      sub = λ a b. record { re = a.re -ℤ b.re; im = a.im -ℤ b.im };
      mul = mul_gaussian;
      div = λ n d. record {
        re = quot_z (n.re *ℤ d.re +ℤ n.im *ℤ d.im) (squares_gaussian d);
        im = quot_z (n.im *ℤ d.re -ℤ n.re *ℤ d.im) (squares_gaussian d);
      };
      conj = λ a. record { re = a.re; im = neg_ℤ a.im };
      is_zero = λ a. same_integer a.re (pos 0) && same_integer a.im (pos 0);
      is_one = λ a. same_integer a.re (pos 1) && same_integer a.im (pos 0);
      from_real = λ v. record { re = v; im = pos 0 };
      scale_real = λ v a. record { re = v *ℤ a.re; im = v *ℤ a.im };
      is_zero_factor = λ v. same_integer v (pos 0);
      is_one_factor = λ v. same_integer v (pos 1);
      width = 2;
      bytes = 0;
      count = λ s. length s / 2;
      at = λ s k. record { re = get_or s (2 * k) (pos 0); im = get_or s (2 * k + 1) (pos 0) };
      put = λ s k a. set (set s (2 * k) a.re) (2 * k + 1) a.im;
      holds_cell = λ z. true;
      holds = λ a. true;
      same_cell = same_integer;
      same = λ a b. same_integer a.re b.re && same_integer a.im b.im;
      same_factor = same_integer;
      finite = λ a. true;
    }

-- ---- a whole number as a float: its sign, its magnitude and the exponent 0

abbrev pub float_of_integer : ℤ → Float
float_of_integer (pos n) = fin false n (pos 0)
float_of_integer (negsuc n) = fin true (suc n) (pos 0)

abbrev pub complex_of_gaussian : Gaussian → Complex
complex_of_gaussian z = record { re = float_of_integer z.re; im = float_of_integer z.im }

-- ---- sizes: the magnitude, of a Gaussian integer |re| + |im|

abbrev pub size_integer : ℤ → ℕ
size_integer = nat_abs

abbrev pub size_gaussian : Gaussian → ℕ
size_gaussian z = nat_abs z.re + nat_abs z.im

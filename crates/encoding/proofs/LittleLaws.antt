-- Laws of numbers as bytes: a number is made of its bytes, and bytes are those of the number that they make. Assumes nothing.
use mathlib.Core.Path.{◌≡◌, refl, sym, ap, subst, ◌∙◌}
use Prim.Native.Nat.{ℕ, zero, suc, ◌+◌, ◌*◌, ◌/◌, ◌%◌, ◌<◌, ◌^◌, suc-le-suc}
use native.Mathlib.Nat.{pow-succ', zero-lt-suc, le_of_suc-le-suc, not-suc-le-zero, add-zero, zero-add}
use native.Mathlib.Omega.{arith}
use mathlib.Core.List.{List}
use lib.ListN.{get_or}
use Rattle.encoding.specs.Little.{byte_of, little, half}

pub byte_of-lt : (n j : ℕ) → byte_of n j < 256
unfolding byte_of
byte_of-lt n zero = omega arith
byte_of-lt n (suc j) = byte_of-lt (n / 256) j

pub little-cong : (m : ℕ) (f g : ℕ → ℕ) → ((j : ℕ) → j < m → f j ≡ g j) → little m f ≡ little m g
unfolding little
little-cong zero f g h = refl
little-cong (suc m) f g h =
    ap (λ (x : ℕ). x + 256 * little m (λ j. f (suc j))) (h 0 (zero-lt-suc m))
    ∙ ap (λ (x : ℕ). g 0 + 256 * x) (little-cong m (λ j. f (suc j)) (λ j. g (suc j)) (λ j p. h (suc j) (suc-le-suc p)))

power : (m : ℕ) → 256 ^ suc m ≡ 256 * 256 ^ m
power m = pow-succ' 256 m

-- a number that fits m bytes is what its bytes make
pub little-byte_of : (m n : ℕ) → n < 256 ^ m → little m (byte_of n) ≡ n
unfolding little byte_of
little-byte_of zero n h = one n h
  where
    one : (n : ℕ) → n < 256 ^ zero → 0 ≡ n
    one n h = omega arith
little-byte_of (suc m) n h = ap (λ (x : ℕ). n % 256 + 256 * x) (little-byte_of m (n / 256) (less m n h)) ∙ whole n
  where
    less : (m n : ℕ) → n < 256 ^ suc m → n / 256 < 256 ^ m
    less m n h = smaller n (256 ^ m) (subst (λ (x : ℕ). n < x) (power m) h)
      where
        smaller : (n x : ℕ) → n < 256 * x → n / 256 < x
        smaller n x h = omega arith

    whole : (n : ℕ) → n % 256 + 256 * (n / 256) ≡ n
    whole n = omega arith

-- m bytes are those of the number that they make
pub byte_of-little : (m : ℕ) (f : ℕ → ℕ) → ((j : ℕ) → j < m → f j < 256) → (j : ℕ) → j < m → byte_of (little m f) j ≡ f j
unfolding little byte_of
byte_of-little zero f b j h = absurd (not-suc-le-zero h)
byte_of-little (suc m) f b zero h = low (f 0) (little m (λ j. f (suc j))) (b 0 h)
  where
    low : (x y : ℕ) → x < 256 → (x + 256 * y) % 256 ≡ x
    low x y h = omega arith
byte_of-little (suc m) f b (suc j) h =
    ap (λ (x : ℕ). byte_of x j) (high (f 0) (little m (λ j. f (suc j))) (b 0 (zero-lt-suc m)))
    ∙ byte_of-little m (λ j. f (suc j)) (λ j p. b (suc j) (suc-le-suc p)) j (le_of_suc-le-suc h)
  where
    high : (x y : ℕ) → x < 256 → (x + 256 * y) / 256 ≡ y
    high x y h = omega arith

pub little-lt : (m : ℕ) (f : ℕ → ℕ) → ((j : ℕ) → j < m → f j < 256) → little m f < 256 ^ m
unfolding little
little-lt zero f b = one
  where
    one : 0 < 256 ^ zero
    one = omega arith
little-lt (suc m) f b =
    subst (λ (x : ℕ). little (suc m) f < x) (sym (power m))
    (grow (f 0) (little m (λ j. f (suc j))) (256 ^ m) (b 0 (zero-lt-suc m)) (little-lt m (λ j. f (suc j)) (λ j p. b (suc j) (suc-le-suc p))))
  where
    grow : (x y z : ℕ) → x < 256 → y < z → x + 256 * y < 256 * z
    grow x y z h k = omega arith

-- r is n without its j low bytes
pub record Rest (n j r : ℕ) : Type 0 where
  pub bytes : (i : ℕ) → byte_of r i ≡ byte_of n (j + i)

pub rest_all : (n : ℕ) → Rest n 0 n
rest_all n = record { bytes = λ i. ap (byte_of n) (sym (zero-add i)) }

pub rest-low : (n j r : ℕ) → Rest n j r → r % 256 ≡ byte_of n j
unfolding byte_of
rest-low n j r h = h.bytes 0 ∙ ap (byte_of n) (add-zero j)

pub rest-next : (n j r : ℕ) → Rest n j r → Rest n (j + 1) (r / 256)
unfolding byte_of
rest-next n j r h = record { bytes = λ i. h.bytes (suc i) ∙ ap (byte_of n) (next j i) }
  where
    next : (j i : ℕ) → j + suc i ≡ j + 1 + i
    next j i = omega arith

-- two bytes of a list
pub half-little : (s : List ℕ) (at k : ℕ) → half s at k ≡ little 2 (λ j. get_or s (at + k + j) 0)
unfolding little
half-little s at k = rw (i0, i1) (omega arith)
  where
    i0 : at + k + 0 ≡ at + k
    i0 = omega arith

    i1 : at + k + 1 ≡ at + (k + 1)
    i1 = omega arith

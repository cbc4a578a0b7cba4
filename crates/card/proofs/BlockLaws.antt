-- One block: what the code looks at, and what it stores, is what the definitions say of it.
use mathlib.Core.Path.{◌≡◌, sym, ap, ◌∙◌}
use mathlib.Core.Bool.{true, not}
use Prim.Native.Nat.{ℕ, ◌+◌, ◌*◌, ◌/◌, ◌%◌, ◌<◌}
use native.Mathlib.Omega.{arith}
use mathlib.Core.List.{List}
use native.Mathlib.Nat.{zero-add}
use lib.Dec.{eqb}
use borrow.Author.Tests.{ne_eqb}
use lib.Ieee.{Float, binary64, of_bits}
use lib.ListN.{get_or, drop}
use lib.Seq.{get_or-drop, get_or-take}
use Rattle.view.proofs.AnyLaws.{found}
use Rattle.encoding.specs.Little.{byte_of}
use Rattle.encoding.specs.Stored.{stored}
use Rattle.encoding.proofs.StoredLaws.{stored_more}
use Rattle.card.specs.Reading.{block, number, number_of, pattern}
use Rattle.card.specs.Scanning.{nonzero}
use Rattle.card.specs.Writing.{number_byte, word_of}

-- ---- bytes that must be zero

pub nonzero-at : (b : List ℕ) (from n j x : ℕ) → j < n → x ≡ get_or b (from + j) 0 → (x ≡ 0 → ⊥) → true ≡ nonzero b from n
unfolding nonzero
nonzero-at b from n j x h e p = sym (found n (λ i. not (eqb (get_or b (from + i) 0) 0)) j h (rw (sym e, ne_eqb _ _ p)))

-- ---- numbers, eight bytes each

pub numbers-next : (left : List Float) (i x : ℕ) (b₀ b b' : List ℕ) → b ≡ stored 0 (8 * i) (number_byte left) b₀ → x ≡ word_of left i → b' ≡ stored (8 * i) 8 (byte_of x) b
    → b' ≡ stored 0 (8 * (i + 1)) (number_byte left) b₀
unfolding number_byte
numbers-next left i x b₀ b b' p q r =
    r
    ∙ ap (λ (y : List ℕ). stored (8 * i) 8 (byte_of x) y) p
    ∙ ap (λ (k : ℕ). stored k 8 (byte_of x) (stored 0 (8 * i) (number_byte left) b₀)) (sym (zero-add (8 * i)))
    ∙ stored_more 0 (8 * i) 8 (number_byte left) (byte_of x) b₀ (λ j h. (λ k. byte_of (q k) j) ∙ (λ k. byte_of (word_of left (quotient i j h k)) (remainder i j h k)))
    ∙ ap (λ (k : ℕ). stored 0 k (number_byte left) b₀) (next i)
  where
    quotient : (i j : ℕ) → j < 8 → i ≡ (8 * i + j) / 8
    quotient i j h = omega arith

    remainder : (i j : ℕ) → j < 8 → j ≡ (8 * i + j) % 8
    remainder i j h = omega arith

    next : (i : ℕ) → 8 * i + 8 ≡ 8 * (i + 1)
    next i = omega arith

-- ---- the blocks of a file

pub get_or-block : (file : List ℕ) (k j : ℕ) → j < 512 → get_or (block file k) j 0 ≡ get_or file (512 * k + j) 0
unfolding block
get_or-block file k j h = get_or-take 512 (drop (512 * k) file) j 0 h ∙ get_or-drop (512 * k) file j 0

-- number i of a file, as the code reads it
pub number_is : (file : List ℕ) (i n : ℕ) (b : List ℕ) (x : Float) → b ≡ block file (1 + i / 63) → n ≡ pattern b (i % 63) → x ≡ of_bits binary64 n → x ≡ number_of file i
unfolding number
number_is file i n b x p q r = r ∙ ap (of_bits binary64) (q ∙ ap (λ (y : List ℕ). pattern y (i % 63)) p)

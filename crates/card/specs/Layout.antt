-- The card of a matrix, byte for byte: 512-byte blocks, block 0 the header, then the data blocks. Assumes nothing.
use Rattle.std.specs.Prelude.{ℕ, zero, suc, ◌+◌, ◌-◌, ◌*◌, ◌/◌, ◌%◌, Bool, true, false, List, [], ◌∷◌, ltb, Float, get_or}
use Rattle.std.specs.Float.{binary64, nan}
use Rattle.std.specs.Float.Ieee.{to_bits}
use Rattle.encoding.specs.Little.{byte_of}
use Rattle.card.specs.declared.Header.{Header}

-- the first where the test passes, else the second
abbrev pub choose : {A : Type 0} → Bool → A → A → A
choose true a b = a
choose false a b = b

-- f 0 + f 1 + .. + f (n - 1)
unfoldable pub total : ℕ → (ℕ → ℕ) → ℕ
total zero f = 0
total (suc n) f = total n f + f n

-- the list f 0, f 1, .. f (n - 1)
unfoldable pub list_of : {A : Type 0} → ℕ → (ℕ → A) → List A
list_of zero f = []
list_of (suc n) f = f 0 ∷ list_of n (λ i. f (suc i))

-- how many f64 numbers the matrix has: kind 0 is f64, kind 1 complex, whose elements have two parts
unfoldable pub count : Header → ℕ
count h = h.rows * h.cols * (1 + h.kind)

-- as many data blocks as n numbers need, 63 to a block
unfoldable pub data_blocks : ℕ → ℕ
data_blocks n = (n + 62) / 63

-- the blocks of a card, the header with them
unfoldable pub blocks : Header → ℕ
blocks h = 1 + data_blocks (count h)

-- the letters ARMM, rows, columns, kind
abbrev pub header_bytes : Header → List ℕ
header_bytes h = 65 ∷ 82 ∷ 77 ∷ 77 ∷ byte_of h.rows 0 ∷ byte_of h.rows 1 ∷ byte_of h.cols 0 ∷ byte_of h.cols 1 ∷ h.kind ∷ []

-- bytes 0 to 509 of the header: past these all are zero
unfoldable pub header_byte : Header → ℕ → ℕ
header_byte h j = get_or (header_bytes h) j 0

-- the number of a data block. Its high byte is not cut to a byte: a k past 65,535 is on no card
abbrev pub index_bytes : ℕ → List ℕ
index_bytes k = k % 256 ∷ k / 256 ∷ []

-- bytes 0 to 509 of data block k, whose numbers have the patterns `bits`; `left` numbers of the matrix are left for it and the blocks after it. All
-- that is no number's byte and not k is zero
unfoldable pub data_byte : ℕ → ℕ → (ℕ → ℕ) → ℕ → ℕ
data_byte k left bits j =
    choose (ltb j 504)
    (choose (ltb (j / 8) left) (byte_of (bits (j / 8)) (j % 8)) 0)
    (get_or (index_bytes k) (j - 504) 0)

-- bytes 0 to 509 of block k, whose numbers have the patterns `bits`
unfoldable pub body_byte : Header → ℕ → (ℕ → ℕ) → ℕ → ℕ
body_byte h zero bits j = header_byte h j
body_byte h (suc d) bits j = data_byte (suc d) (count h - 63 * d) bits j

-- a block: bytes 0 to 509, then their sum modulo 65,536
unfoldable pub block_byte : (ℕ → ℕ) → ℕ → ℕ
block_byte f j = choose (ltb j 510) (f j) (byte_of (total 510 f % 65536) (j - 510))

-- byte p of the card of the numbers with the patterns `bits`, by rows
unfoldable pub card_byte : Header → (ℕ → ℕ) → ℕ → ℕ
card_byte h bits p = block_byte (body_byte h (p / 512) (λ i. bits (63 * (p / 512 - 1) + i))) (p % 512)

-- the patterns of a slab's numbers
unfoldable pub patterns : List Float → ℕ → ℕ
patterns slab i = to_bits binary64 (get_or slab i nan)

-- the card of the matrix at the front of a slab
unfoldable pub card : Header → List Float → List ℕ
card h slab = list_of (512 * blocks h) (card_byte h (patterns slab))

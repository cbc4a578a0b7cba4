-- Numbers in a list of bytes, low byte first. Past the list's end every byte counts as 0. Assumes nothing.
use Rattle.std.specs.Prelude.{ℕ, zero, suc, ◌+◌, ◌*◌, ◌/◌, ◌%◌, List, get_or}

-- byte j of n
unfoldable pub byte_of : ℕ → ℕ → ℕ
byte_of n zero = n % 256
byte_of n (suc j) = byte_of (n / 256) j

-- the number whose m bytes are f 0, f 1, ..
unfoldable pub little : ℕ → (ℕ → ℕ) → ℕ
little zero f = 0
little (suc m) f = f 0 + 256 * little m (λ j. f (suc j))

-- two bytes at place at + k
abbrev pub half : List ℕ → ℕ → ℕ → ℕ
half s at k = get_or s (at + k) 0 + 256 * get_or s (at + (k + 1)) 0

-- four bytes
abbrev pub word : List ℕ → ℕ → ℕ → ℕ
word s at k = half s at k + 65536 * half s at (k + 2)

-- eight bytes
abbrev pub double : List ℕ → ℕ → ℕ → ℕ
double s at k = word s at k + 4294967296 * word s at (k + 4)

-- What reading a card answers, hands back and leaves, for every file and slab, by the limit of refusal 1. Assumes nothing.
use Rattle.std.specs.Prelude.{Result, Ok, Err, ℕ, ◌+◌, ◌*◌, ◌/◌, ◌%◌, ◌<◌, Bool, not, ◌||◌, List, eqb, ltb, Float, length, get_or, take, drop}
use Rattle.std.specs.Float.{binary64}
use Rattle.std.specs.Float.Ieee.{of_bits}
use Rattle.view.specs.Any.{any}
use Rattle.encoding.specs.Little.{little}
use Rattle.encoding.specs.Stored.{stored}
use Rattle.card.specs.declared.Header.{Header}
use Rattle.card.specs.declared.Refusal.{Refusal}
use Rattle.card.specs.Layout.{choose, total, count, blocks, body_byte}
use Rattle.card.specs.Answers.{CardAnswer, Done, TooLarge, TooShort, Torn, Wrong, refused, oversize}

-- every element of a list is a byte: so it is of what code is lent
abbrev pub Bytes : List ℕ → Type 0
Bytes file = (i : ℕ) → get_or file i 0 < 256

-- ---- a block

-- bytes `at` and the m - 1 after it as a number
abbrev pub number_at : List ℕ → ℕ → ℕ → ℕ
number_at b at m = little m (λ j. get_or b (at + j) 0)

-- the header that block 0 holds
unfoldable pub header_of : List ℕ → Header
header_of b = record { kind = get_or b 8 0; rows = number_at b 4 2; cols = number_at b 6 2 }

-- the pattern of number i of a data block
unfoldable pub pattern : List ℕ → ℕ → ℕ
pattern b i = number_at b (8 * i) 8

-- the sum of bytes 0 to 509
abbrev pub sum_of : List ℕ → ℕ
sum_of b = total 510 (λ j. get_or b j 0)

-- its sum fails
unfoldable pub torn_block : List ℕ → Bool
torn_block b = not (eqb (number_at b 510 2) (sum_of b % 65536))

-- one of its bytes 0 to 509 is not f's
unfoldable pub differs : (ℕ → ℕ) → List ℕ → Bool
differs f b = any 510 (λ j. not (eqb (get_or b j 0) (f j)))

-- as block k of a card with header h, one of its bytes 0 to 509 is not what h, k and its own numbers make it
abbrev pub departs : Header → ℕ → List ℕ → Bool
departs h k b = differs (body_byte h k (pattern b)) b

-- ---- a file

unfoldable pub block : List ℕ → ℕ → List ℕ
block file k = take 512 (drop (512 * k) file)

abbrev pub header : List ℕ → Header
header file = header_of (block file 0)

-- the pattern of number i, 63 to a data block
unfoldable pub number : List ℕ → ℕ → ℕ
number file i = pattern (block file (1 + i / 63)) (i % 63)

-- and the number itself
abbrev pub number_of : List ℕ → ℕ → Float
number_of file i = of_bits binary64 (number file i)

-- torn: the length is no whole number of blocks, or a block's sum fails
unfoldable pub torn : List ℕ → Bool
torn file = not (eqb (length file % 512) 0) || any (length file / 512) (λ k. torn_block (block file k))

-- wrong: a kind that is none, another number of blocks than the header asks, or a block that departs
unfoldable pub wrong : List ℕ → Bool
wrong file =
    ltb 1 (header file).kind
    || not (eqb (length file / 512) (blocks (header file)))
    || any (length file / 512) (λ k. departs (header file) k (block file k))

-- ---- the call

-- what reading answers, with the header that it hands back
pub record Reading : Type 0 where
  pub answer : CardAnswer
  pub header : Header

-- what a call returns, read as that: a refusal hands back zeros
abbrev pub reading_of : Result Header Refusal → Reading
reading_of (Ok h) = record { answer = Done; header = h }
reading_of (Err e) = record { answer = refused e; header = record { kind = 0; rows = 0; cols = 0 } }

-- torn before wrong before oversize before a slab that is too short
unfoldable pub read_answer : ℕ → List ℕ → ℕ → CardAnswer
read_answer limit file room =
    choose (torn file) Torn
    (choose (wrong file) Wrong
    (choose (oversize limit (header file)) TooLarge
    (choose (ltb room (count (header file))) TooShort Done)))

-- the header is handed back where the card is read, else zeros
abbrev pub handed : CardAnswer → Header → Header
handed Done h = h
handed TooLarge h = record { kind = 0; rows = 0; cols = 0 }
handed TooShort h = record { kind = 0; rows = 0; cols = 0 }
handed Torn h = record { kind = 0; rows = 0; cols = 0 }
handed Wrong h = record { kind = 0; rows = 0; cols = 0 }

unfoldable pub reading : ℕ → List ℕ → ℕ → Reading
reading limit file room = record { answer = read_answer limit file room; header = handed (read_answer limit file room) (header file) }

-- the new where a call is done, else the old, as it was lent
abbrev pub changed : {A : Type 0} → CardAnswer → A → A → A
changed Done old new = new
changed TooLarge old new = old
changed TooShort old new = old
changed Torn old new = old
changed Wrong old new = old

-- the slab afterwards: the matrix fills its front
unfoldable pub slab_after : ℕ → List ℕ → List Float → List Float
slab_after limit file slab =
    changed (read_answer limit file (length slab)) slab
    (stored 0 (count (header file)) (number_of file) slab)

-- What writing a card answers, hands back and leaves, for every shape, slab and buffer, by the limit of refusal 1. Assumes nothing.
use Rattle.std.specs.Prelude.{Result, Ok, Err, ℕ, ◌*◌, ◌/◌, ◌%◌, ◌||◌, List, ltb, Float, length}
use Rattle.encoding.specs.Little.{byte_of}
use Rattle.encoding.specs.Stored.{stored}
use Rattle.card.specs.declared.Header.{Header}
use Rattle.card.specs.declared.Refusal.{Refusal}
use Rattle.card.specs.Layout.{choose, count, blocks, card_byte, patterns}
use Rattle.card.specs.Answers.{CardAnswer, Done, TooLarge, TooShort, Torn, Wrong, refused, oversize}
use Rattle.card.specs.Reading.{changed, sum_of}

-- what writing answers, with the card's length
pub record Writing : Type 0 where
  pub answer : CardAnswer
  pub length : ℕ

-- what a call returns, read as that: a refusal hands back 0
abbrev pub writing_of : Result ℕ Refusal → Writing
writing_of (Ok n) = record { answer = Done; length = n }
writing_of (Err e) = record { answer = refused e; length = 0 }

abbrev pub header_for : ℕ → ℕ → ℕ → Header
header_for kind rows cols = record { kind = kind; rows = rows; cols = cols }

-- oversize before a slab or a buffer that is too short
unfoldable pub write_answer : ℕ → Header → ℕ → ℕ → CardAnswer
write_answer limit h room space =
    choose (oversize limit h) TooLarge
    (choose (ltb room (count h) || ltb space (512 * blocks h)) TooShort Done)

-- the card's length is handed back where it is written, else 0
abbrev pub handed_length : CardAnswer → ℕ → ℕ
handed_length Done n = n
handed_length TooLarge n = 0
handed_length TooShort n = 0
handed_length Torn n = 0
handed_length Wrong n = 0

unfoldable pub writing : ℕ → Header → ℕ → ℕ → Writing
writing limit h room space = record { answer = write_answer limit h room space; length = handed_length (write_answer limit h room space) (512 * blocks h) }

-- the buffer afterwards: the card fills its front
unfoldable pub buffer_after : ℕ → Header → List Float → List ℕ → List ℕ
buffer_after limit h slab buffer =
    changed (write_answer limit h (length slab) (length buffer)) buffer
    (stored 0 (512 * blocks h) (card_byte h (patterns slab)) buffer)

-- ---- what the code does to one block

-- a block with the sum of its bytes 0 to 509 stored
abbrev pub sealed : List ℕ → List ℕ
sealed b = stored 510 2 (byte_of (sum_of b % 65536)) b

-- the pattern of number i of a block for which the numbers `left` are left; past them zero
abbrev pub word_of : List Float → ℕ → ℕ
word_of left i = choose (ltb i (length left)) (patterns left i) 0

-- byte j of the numbers of such a block
unfoldable pub number_byte : List Float → ℕ → ℕ
number_byte left j = byte_of (word_of left (j / 8)) (j % 8)

-- What holds of cards, for every limit: what each answer means, that a written card read back gives the matrix, and that a matrix without NaN has a
-- single card.
use Rattle.std.specs.Prelude.{ℕ, ◌*◌, ◌/◌, ◌%◌, ◌<◌, ◌≤◌, true, false, List, ◌⊎◌, ◌≡◌, T, Float, length, get_or, take, drop}
use Rattle.std.specs.Float.{binary64, nan}
use Rattle.std.specs.Float.Ieee.{fits, is_nan}
use Rattle.encoding.specs.Stored.{stored}
use Rattle.card.specs.declared.Header.{Header}
use Rattle.card.specs.Answers.{CardAnswer, Done, TooLarge, TooShort, Torn, Wrong, oversize}
use Rattle.card.specs.Layout.{list_of, count, blocks, card_byte, card}
use Rattle.card.specs.Reading.{Bytes, block, header, number, number_at, number_of, read_answer, reading, slab_after, sum_of, torn, wrong}
use Rattle.card.specs.Writing.{buffer_after, write_answer}

-- every number of a slab is an f64: so it is of what code is lent
abbrev pub Numbers : List Float → Type 0
Numbers slab = (i : ℕ) → T (fits binary64 (get_or slab i nan))

-- ---- what the answers mean

-- what is so of a file where reading answers a
pub data Read (limit : ℕ) (file : List ℕ) (room : ℕ) : CardAnswer → Type 0 where
  torn-card : torn file ≡ true → Read limit file room Torn
  wrong-card : torn file ≡ false → wrong file ≡ true → Read limit file room Wrong
  large-card : torn file ≡ false → wrong file ≡ false → oversize limit (header file) ≡ true → Read limit file room TooLarge
  short-slab : torn file ≡ false → wrong file ≡ false → oversize limit (header file) ≡ false → room < count (header file) → Read limit file room TooShort
  read-card : torn file ≡ false → wrong file ≡ false → oversize limit (header file) ≡ false → count (header file) ≤ room → Read limit file room Done

-- what is so of a shape, a slab's and a buffer's length where writing answers a
pub data Written (limit : ℕ) (h : Header) (room space : ℕ) : CardAnswer → Type 0 where
  large-matrix : oversize limit h ≡ true → Written limit h room space TooLarge
  short-lent : oversize limit h ≡ false → (room < count h) ⊎ (space < 512 * blocks h) → Written limit h room space TooShort
  written-card : oversize limit h ≡ false → count h ≤ room → 512 * blocks h ≤ space → Written limit h room space Done

-- a file's length is no whole number of blocks, or some block's sum is not that of its bytes 0 to 509 modulo 65,536
abbrev pub SumFails : List ℕ → Type 0
SumFails file = (length file % 512 ≡ 0 → ⊥) ⊎ ((k : ℕ) × (k < length file / 512) × (number_at (block file k) 510 2 ≡ sum_of (block file k) % 65536 → ⊥))

-- a file has a kind and is, byte for byte, the card of the header and the patterns that stand on it
pub record IsCard (file : List ℕ) : Type 0 where
  pub kind : (header file).kind ≤ 1
  pub bytes : file ≡ list_of (512 * blocks (header file)) (card_byte (header file) (number file))

pub record Answers : Type 0 where
  pub read : (limit : ℕ) (file : List ℕ) (room : ℕ) → Read limit file room (read_answer limit file room)
  pub written : (limit : ℕ) (h : Header) (room space : ℕ) → Written limit h room space (write_answer limit h room space)
  -- torn says just that, and where a file is not torn, wrong says that it is no card
  pub torn-is : (file : List ℕ) → (torn file ≡ true → SumFails file) × (SumFails file → torn file ≡ true)
  pub wrong-is : (file : List ℕ) → Bytes file → torn file ≡ false → (wrong file ≡ false → IsCard file) × (IsCard file → wrong file ≡ false)

-- ---- a written card

pub record ReadBack : Type 0 where
  -- what is written is the card, and past it the buffer is as lent
  pub front : (limit : ℕ) (h : Header) (slab : List Float) (buffer : List ℕ) → write_answer limit h (length slab) (length buffer) ≡ Done
      → take (512 * blocks h) (buffer_after limit h slab buffer) ≡ card h slab
  pub rest : (limit : ℕ) (h : Header) (slab : List Float) (buffer : List ℕ) → drop (512 * blocks h) (buffer_after limit h slab buffer) ≡ drop (512 * blocks h) buffer
  -- read back, it gives shape and kind, and every number of the matrix by its bits, a NaN as a NaN; past the matrix the slab is as lent
  pub back : (limit : ℕ) (h : Header) (slab : List Float) → limit < 65536 → h.kind ≤ 1 → oversize limit h ≡ false → Numbers slab → (after : List Float) → count h ≤ length after
      → (reading limit (card h slab) (length after) ≡ record { answer = Done; header = h }) × (slab_after limit (card h slab) after ≡ stored 0 (count h) (λ i. get_or slab i nan) after)

-- ---- a single card

-- reading answers Done, and no number of the matrix is a NaN
pub record Plain (limit : ℕ) (file : List ℕ) (room : ℕ) : Type 0 where
  pub bytes : Bytes file
  pub read : read_answer limit file room ≡ Done
  pub no_nan : (i : ℕ) → i < count (header file) → is_nan (number_of file i) ≡ false

pub record SingleCard : Type 0 where
  -- a card that is read is the card of what it reads as
  pub own : (limit : ℕ) (file : List ℕ) (slab : List Float) → Plain limit file (length slab) → file ≡ card (header file) (slab_after limit file slab)
  -- two cards of one matrix are the same
  pub one : (limit : ℕ) (file file' : List ℕ) (room : ℕ) → Plain limit file room → Bytes file' → read_answer limit file' room ≡ Done
      → header file ≡ header file' → ((i : ℕ) → i < count (header file) → number_of file i ≡ number_of file' i) → file ≡ file'

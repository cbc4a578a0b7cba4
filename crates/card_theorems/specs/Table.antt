-- Worked points of cards, from the definitions: a field each.
use Rattle.std.specs.Prelude.{ℕ, List, [], ◌∷◌, ◌++◌, ◌≡◌, eqb, Float, length, get_or, replicate, take}
use Rattle.std.specs.Float.{binary64, nan}
use Rattle.std.specs.Float.Ieee.{of_bits}
use Rattle.card.specs.declared.Header.{Header}
use Rattle.card.specs.Answers.{CardAnswer, Done, TooLarge, TooShort, Torn, Wrong}
use Rattle.card.specs.Layout.{choose, list_of, body_byte, block_byte, card, data_byte}
use Rattle.card.specs.Reading.{read_answer, reading, slab_after}
use Rattle.card.specs.Writing.{header_for, write_answer}

-- ---- how a row writes numbers, headers and files

-- 1, 2 and -0
abbrev pub one : Float
one = of_bits binary64 0x3ff0000000000000

abbrev pub two : Float
two = of_bits binary64 0x4000000000000000

abbrev pub real : ℕ → ℕ → Header
real m n = header_for 0 m n

abbrev pub complex : ℕ → ℕ → Header
complex m n = header_for 1 m n

-- the block whose bytes 0 to 509 are f's, but for byte p, which is x; its sum is right
abbrev pub but : ℕ → ℕ → (ℕ → ℕ) → List ℕ
but p x f = list_of 512 (block_byte (λ j. choose (eqb j p) x (f j)))

-- the header of a 1 by 1 matrix, and the data block of its number 1
abbrev pub head : ℕ → ℕ
head = body_byte (real 1 1) 0 (λ i. 0)

abbrev pub body : ℕ → ℕ
body = body_byte (real 1 1) 1 (λ i. 0x3ff0000000000000)

abbrev pub good : List ℕ
good = card (real 1 1) (one ∷ [])

-- a block whose sum fails
abbrev pub ones : List ℕ
ones = replicate 512 1

abbrev pub zeros : List ℕ
zeros = replicate 512 0

-- data block k of a matrix whose numbers are all +0
abbrev pub clear : ℕ → List ℕ
clear k = list_of 512 (block_byte (data_byte k 63 (λ i. 0)))

-- the reader's answer for a slab of n numbers
abbrev pub answer : List ℕ → ℕ → CardAnswer
answer file n = read_answer 64 file n

-- ---- the table

pub record WorkedPoints : Type 0 where
  -- the card of the 1 by 1 matrix (1): two blocks; its header begins ARMM, 1, 1, 0 and its sum is 303; its data block has the sum 304
  pub length-of : length good ≡ 1024
  pub letters : take 10 good ≡ 65 ∷ 82 ∷ 77 ∷ 77 ∷ 1 ∷ 0 ∷ 1 ∷ 0 ∷ 0 ∷ 0 ∷ []
  pub head-sum : (get_or good 510 0 ≡ 47) × (get_or good 511 0 ≡ 1)
  pub number : (get_or good 518 0 ≡ 240) × (get_or good 519 0 ≡ 63)
  pub index : (get_or good 1016 0 ≡ 1) × (get_or good 1017 0 ≡ 0)
  pub body-sum : (get_or good 1022 0 ≡ 48) × (get_or good 1023 0 ≡ 1)
  -- it is read
  pub read : reading 64 good 1 ≡ record { answer = Done; header = real 1 1 }
  pub read_number : slab_after 64 good (two ∷ two ∷ []) ≡ one ∷ two ∷ []
  -- 0 bytes are wrong, 1 byte is torn, a block of zeros is wrong
  pub empty : answer [] 1 ≡ Wrong
  pub one_byte : answer (65 ∷ []) 1 ≡ Torn
  pub zero-block : answer zeros 1 ≡ Wrong
  -- a block too many is torn where its sum fails, else wrong
  pub block-of-ones : answer (good ++ ones) 1 ≡ Torn
  pub block-of-zeros : answer (good ++ zeros) 1 ≡ Wrong
  -- too few blocks
  pub header-alone : answer (but 510 0 head) 1 ≡ Wrong
  -- byte 503 of block 1, past the matrix, is 0x80
  pub minus-zero : answer (but 510 0 head ++ but 503 128 body) 1 ≡ Wrong
  -- another letter, a kind above 1, byte 9 of the header, another k, byte 506 of a data block
  pub letter : answer (but 3 78 head ++ but 510 0 body) 1 ≡ Wrong
  pub kind : answer (but 8 2 head ++ but 510 0 body) 3 ≡ Wrong
  pub past-kind : answer (but 9 1 head ++ but 510 0 body) 1 ≡ Wrong
  pub other-index : answer (but 510 0 head ++ but 504 0 body) 1 ≡ Wrong
  pub past_index : answer (but 510 0 head ++ but 506 1 body) 1 ≡ Wrong
  -- torn before wrong: another k in block 1, and block 2 is torn
  pub torn-first : answer (but 510 0 head ++ but 504 0 body ++ ones) 1 ≡ Torn
  -- 65 by 1 with its two data blocks is too large; with one, or with another k, it is wrong
  pub large : answer (list_of 512 (block_byte (body_byte (real 65 1) 0 (λ i. 0))) ++ clear 1 ++ clear 2) 65 ≡ TooLarge
  pub large-cut : answer (list_of 512 (block_byte (body_byte (real 65 1) 0 (λ i. 0))) ++ clear 1) 65 ≡ Wrong
  pub large-index : answer (list_of 512 (block_byte (body_byte (real 65 1) 0 (λ i. 0))) ++ clear 1 ++ clear 3) 65 ≡ Wrong
  -- 0 by 5 is the header alone, for any slab; 0 by 65 is too large
  pub no_rows : answer (card (real 0 5) []) 0 ≡ Done
  pub no-rows-large : answer (card (real 0 65) []) 0 ≡ TooLarge
  -- the high byte of k = 65,536 is 256, which no byte is
  pub far-index : data_byte 65536 63 (λ i. 0) 505 ≡ 256
  -- a NaN's pattern, 7ff0000000000001, is read as a NaN; a NaN is written as 7ff8000000000000
  pub nan-read : slab_after 64 (but 510 0 head ++ list_of 512 (block_byte (body_byte (real 1 1) 1 (λ i. 0x7ff0000000000001)))) (one ∷ []) ≡ nan ∷ []
  pub nan-written : (get_or (card (real 1 1) (nan ∷ [])) 518 0 ≡ 248) × (get_or (card (real 1 1) (nan ∷ [])) 519 0 ≡ 127)
  -- a complex 1 by 1 matrix needs two numbers: a slab of 1 is too short, of 3 the last stays
  pub complex-short : answer (card (complex 1 1) (one ∷ two ∷ [])) 1 ≡ TooShort
  pub complex-read : slab_after 64 (card (complex 1 1) (one ∷ two ∷ [])) (nan ∷ nan ∷ nan ∷ []) ≡ one ∷ two ∷ nan ∷ []
  -- writing 1 by 1 wants a slab of 1 and a buffer of 1,024; 65 rows are too large whatever the lengths
  pub write : write_answer 64 (real 1 1) 1 1024 ≡ Done
  pub write-short : write_answer 64 (real 1 1) 1 1023 ≡ TooShort
  pub write-slab : write_answer 64 (complex 1 1) 1 1024 ≡ TooShort
  pub write-large : write_answer 64 (real 65 1) 0 0 ≡ TooLarge

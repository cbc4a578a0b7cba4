-- The scan of a file, one block at a time: all that reading keeps of the blocks that it has gone over. Assumes nothing.
use Rattle.std.specs.Prelude.{ℕ, zero, suc, ◌+◌, Bool, false, not, ◌||◌, List, eqb, ltb, get_or}
use Rattle.view.specs.Any.{any}
use Rattle.card.specs.declared.Header.{Header}
use Rattle.card.specs.declared.Scan.{Scan}
use Rattle.card.specs.Layout.{choose, count, blocks, data_byte}
use Rattle.card.specs.Answers.{CardAnswer, Done, TooLarge, TooShort, Torn, Wrong, oversize}
use Rattle.card.specs.Reading.{header_of, torn_block, departs, differs, pattern, block}

-- nothing gone over
abbrev pub begun : Scan
begun = record { blocks = 0; torn = false; wrong = false; header = record { kind = 0; rows = 0; cols = 0 } }

-- the header that counts from the next block on: block 0's own, else the one that is kept
unfoldable pub heading : ℕ → Header → List ℕ → Header
heading zero h b = header_of b
heading (suc k) h b = h

-- one block more
unfoldable pub scanned : Scan → List ℕ → Scan
scanned s b = record {
  blocks = s.blocks + 1;
  torn = torn_block b || s.torn;
  wrong = departs (heading s.blocks s.header b) s.blocks b || s.wrong;
  header = heading s.blocks s.header b;
}

-- the first n blocks of a file
unfoldable pub scan_of : List ℕ → ℕ → Scan
scan_of file zero = begun
scan_of file (suc n) = scanned (scan_of file n) (block file n)

-- the file that ends after a scan is wrong
unfoldable pub scan_wrong : Scan → Bool
scan_wrong s = ltb 1 s.header.kind || not (eqb s.blocks (blocks s.header)) || s.wrong

-- what a scan answers of a file that ends after it, or with `rest` bytes more
unfoldable pub scan_answer : ℕ → Scan → ℕ → ℕ → CardAnswer
scan_answer limit s rest room =
    choose (not (eqb rest 0) || s.torn) Torn
    (choose (scan_wrong s) Wrong
    (choose (oversize limit s.header) TooLarge
    (choose (ltb room (count s.header)) TooShort Done)))

-- ---- what the code asks of one block

-- one of the n bytes from `from` on is not zero
unfoldable pub nonzero : List ℕ → ℕ → ℕ → Bool
nonzero b from n = any n (λ j. not (eqb (get_or b (from + j) 0) 0))

-- b departs from data block k, for which n numbers are left
abbrev pub data_departs : ℕ → ℕ → List ℕ → Bool
data_departs k n b = differs (data_byte k n (pattern b)) b

-- The table of worked points holds: each row by computing the definitions.
use mathlib.Core.Path.{refl}
use lib.Ieee.{of_bits, to_bits}
use Rattle.view.specs.Any.{any}
use Rattle.encoding.specs.Little.{byte_of, little}
use Rattle.encoding.specs.Stored.{stored}
use Rattle.card.specs.Layout.{block_byte, blocks, body_byte, card, card_byte, count, data_blocks, data_byte, header_byte, list_of, patterns, total}
use Rattle.card.specs.Reading.{block, differs, header_of, number, pattern, read_answer, reading, slab_after, torn, torn_block, wrong}
use Rattle.card.specs.Writing.{write_answer}
use Rattle.card_theorems.specs.Table.{WorkedPoints}

pub worked-points : WorkedPoints
unfolding of_bits to_bits any byte_of little stored block_byte blocks body_byte card card_byte count data_blocks data_byte header_byte list_of patterns total block differs header_of number pattern read_answer reading slab_after torn torn_block wrong write_answer
worked-points =
    record {
      length-of = refl;
      letters = refl;
      head-sum = (refl, refl);
      number = (refl, refl);
      index = (refl, refl);
      body-sum = (refl, refl);
      read = refl;
      read_number = refl;
      empty = refl;
      one_byte = refl;
      zero-block = refl;
      block-of-ones = refl;
      block-of-zeros = refl;
      header-alone = refl;
      minus-zero = refl;
      letter = refl;
      kind = refl;
      past-kind = refl;
      other-index = refl;
      past_index = refl;
      torn-first = refl;
      large = refl;
      large-cut = refl;
      large-index = refl;
      no_rows = refl;
      no-rows-large = refl;
      far-index = refl;
      nan-read = refl;
      nan-written = (refl, refl);
      complex-short = refl;
      complex-read = refl;
      write = refl;
      write-short = refl;
      write-slab = refl;
      write-large = refl;
    }

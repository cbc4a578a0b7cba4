-- The C functions of cards: the answer's number, what the lent numbers and bytes are afterwards, and what is handed back, on answer 0 alone.
use Rattle.std.specs.Prelude.{ℕ, ◌*◌, List, ◌≡◌, Float, length}
use Rattle.view.specs.Refusals.{limit}
use Rattle.card.specs.declared.Header.{Header}
use Rattle.card.specs.Answers.{CardAnswer, card_number}
use Rattle.card.specs.Layout.{blocks}
use Rattle.card.specs.Reading.{changed, header, read_answer, slab_after}
use Rattle.card.specs.Writing.{buffer_after, write_answer}

-- what reading answers at the limit
abbrev pub answer_of : List ℕ → List Float → CardAnswer
answer_of file slab = read_answer limit file (length slab)

-- zb_card_read of a file and a slab: its result r, the slab's end, and kind, rows and columns, which held k, m and n, at the end
pub record Reads (file : List ℕ) (slab : List Float) (k m n r : ℕ) (slab' : List Float) (k' m' n' : ℕ) : Type 0 where
  pub result : r ≡ card_number (answer_of file slab)
  pub leaves : slab' ≡ slab_after limit file slab
  pub kind : k' ≡ changed (answer_of file slab) k (header file).kind
  pub rows : m' ≡ changed (answer_of file slab) m (header file).rows
  pub cols : n' ≡ changed (answer_of file slab) n (header file).cols

-- a writing call with header h, of a slab to a buffer: its result r, the buffer's end, and the length, which held n, at the end
pub record Writes (h : Header) (slab : List Float) (buffer : List ℕ) (n r : ℕ) (buffer' : List ℕ) (n' : ℕ) : Type 0 where
  pub result : r ≡ card_number (write_answer limit h (length slab) (length buffer))
  pub leaves : buffer' ≡ buffer_after limit h slab buffer
  pub handed : n' ≡ changed (write_answer limit h (length slab) (length buffer)) n (512 * blocks h)

-- What holds of cards: the answers by their tests, the rest by the card of a header and patterns (Files).
use mathlib.Core.Path.{◌≡◌, refl, sym, ap, subst, ◌∙◌}
use mathlib.Core.Bool.{Bool, true, false, not, ◌||◌, false≢true}
use mathlib.Core.Logic.{◌⊎◌, inl, inr}
use Prim.Native.Nat.{ℕ, suc, ◌+◌, ◌-◌, ◌*◌, ◌/◌, ◌%◌, ◌<◌, ◌≤◌, ◌^◌}
use native.Mathlib.Nat.{zero-add}
use native.Mathlib.Omega.{arith}
use mathlib.Core.List.{List}
use lib.Dec.{T, eqb, ltb}
use lib.Ieee.{Float, binary64, is_nan, nan, of_bits, to_bits}
use lib.Ieee.Bits.{of_bits-to_bits, to_bits-lt, to_bits-of_bits}
use lib.ListN.{length, get_or, take, drop, length-drop}
use lib.Seq.{ext_get_or, get_or-take, get_or-drop, length-take-le}
use borrow.Author.Tests.{eq-eqb, ne_eqb, le-ltb}
use Rattle.view.specs.Any.{any}
use Rattle.view.proofs.AnyLaws.{finds, found, or_left, or_right, or-false-left, or-false-right, clash}
use Rattle.encoding.specs.Stored.{stored}
use Rattle.encoding.proofs.LittleLaws.{little-lt}
use Rattle.encoding.proofs.StoredLaws.{length-stored, stored-after, stored-cong, stored-in}
use Rattle.card.specs.declared.Header.{Header}
use Rattle.card.specs.Answers.{CardAnswer, Done, TooLarge, TooShort, Torn, Wrong, is_done, oversize}
use Rattle.card.specs.Layout.{choose, list_of, count, blocks, block_byte, card_byte, card, patterns}
use Rattle.card.specs.Reading.{Bytes, block, changed, handed, header, header_of, number, number_at, number_of, pattern, read_answer, reading, slab_after, sum_of, torn, torn_block, wrong}
use Rattle.card.specs.Writing.{buffer_after, write_answer}
use Rattle.card_theorems.specs.Cards.{Numbers, Read, torn-card, wrong-card, large-card, short-slab, read-card, Written, large-matrix, short-lent, written-card, SumFails, IsCard, Answers, ReadBack, Plain, SingleCard}
use Rattle.card.proofs.Sums.{get_or-list_of, length-list_of}
use Rattle.card.proofs.BlockLaws.{get_or-block}
use Rattle.card.proofs.Calls.{no_le, read_done, yes_lt}
use Rattle.card_theorems.proofs.Files as files

-- ---- what the answers mean

-- a test with its value
sure : (b : Bool) → (b ≡ true) ⊎ (b ≡ false)
sure true = inl refl
sure false = inr refl

read_is : (limit : ℕ) (file : List ℕ) (room : ℕ) → Read limit file room (read_answer limit file room)
unfolding read_answer
read_is limit file room = go (sure (torn file)) (sure (wrong file)) (sure (oversize limit (header file))) (sure (ltb room (count (header file))))
  where
    go : (torn file ≡ true) ⊎ (torn file ≡ false) → (wrong file ≡ true) ⊎ (wrong file ≡ false) → (oversize limit (header file) ≡ true) ⊎ (oversize limit (header file) ≡ false)
        → (ltb room (count (header file)) ≡ true) ⊎ (ltb room (count (header file)) ≡ false) → Read limit file room (read_answer limit file room)
    go (inl t) w l s = subst (Read limit file room) (λ i. choose (sym t i) Torn (choose (wrong file) Wrong (choose (oversize limit (header file)) TooLarge (choose (ltb room (count (header file))) TooShort Done)))) (torn-card t)
    go (inr t) (inl w) l s = subst (Read limit file room) (λ i. choose (sym t i) Torn (choose (sym w i) Wrong (choose (oversize limit (header file)) TooLarge (choose (ltb room (count (header file))) TooShort Done)))) (wrong-card t w)
    go (inr t) (inr w) (inl l) s = subst (Read limit file room) (λ i. choose (sym t i) Torn (choose (sym w i) Wrong (choose (sym l i) TooLarge (choose (ltb room (count (header file))) TooShort Done)))) (large-card t w l)
    go (inr t) (inr w) (inr l) (inl s) =
        subst (Read limit file room) (λ i. choose (sym t i) Torn (choose (sym w i) Wrong (choose (sym l i) TooLarge (choose (sym s i) TooShort Done)))) (short-slab t w l (yes_lt room (count (header file)) s))
    go (inr t) (inr w) (inr l) (inr s) =
        subst (Read limit file room) (λ i. choose (sym t i) Torn (choose (sym w i) Wrong (choose (sym l i) TooLarge (choose (sym s i) TooShort Done)))) (read-card t w l (no_le room (count (header file)) s))

written_is : (limit : ℕ) (h : Header) (room space : ℕ) → Written limit h room space (write_answer limit h room space)
unfolding write_answer
written_is limit h room space = go (sure (oversize limit h)) (sure (ltb room (count h))) (sure (ltb space (512 * blocks h)))
  where
    go : (oversize limit h ≡ true) ⊎ (oversize limit h ≡ false) → (ltb room (count h) ≡ true) ⊎ (ltb room (count h) ≡ false) → (ltb space (512 * blocks h) ≡ true) ⊎ (ltb space (512 * blocks h) ≡ false)
        → Written limit h room space (write_answer limit h room space)
    go (inl l) r s = subst (Written limit h room space) (λ i. choose (sym l i) TooLarge (choose (ltb room (count h) || ltb space (512 * blocks h)) TooShort Done)) (large-matrix l)
    go (inr l) (inl r) s = subst (Written limit h room space) (λ i. choose (sym l i) TooLarge (choose (sym r i || ltb space (512 * blocks h)) TooShort Done)) (short-lent l (inl (yes_lt room (count h) r)))
    go (inr l) (inr r) (inl s) = subst (Written limit h room space) (λ i. choose (sym l i) TooLarge (choose (sym r i || sym s i) TooShort Done)) (short-lent l (inr (yes_lt space (512 * blocks h) s)))
    go (inr l) (inr r) (inr s) = subst (Written limit h room space) (λ i. choose (sym l i) TooLarge (choose (sym r i || sym s i) TooShort Done)) (written-card l (no_le room (count h) r) (no_le space (512 * blocks h) s))

differ : (x y : ℕ) → not (eqb x y) ≡ true → x ≡ y → ⊥
differ x y h e = clash h (rw (eq-eqb x y e))

differs-test : (x y : ℕ) → (x ≡ y → ⊥) → not (eqb x y) ≡ true
differs-test x y h = rw (ne_eqb x y h)

torn-fails : (file : List ℕ) → torn file ≡ true → SumFails file
unfolding torn torn_block
torn-fails file h = go (sure (not (eqb (length file % 512) 0)))
  where
    go : (not (eqb (length file % 512) 0) ≡ true) ⊎ (not (eqb (length file % 512) 0) ≡ false) → SumFails file
    go (inl p) = inl (differ (length file % 512) 0 p)
    go (inr p) =
        let w = finds (length file / 512) (λ k. torn_block (block file k)) ((λ i. sym p i || any (length file / 512) (λ k. torn_block (block file k))) ∙ h) in
        inr (w.0, w.1, differ (number_at (block file w.0) 510 2) (sum_of (block file w.0) % 65536) w.2)

fails-torn : (file : List ℕ) → SumFails file → torn file ≡ true
unfolding torn torn_block
fails-torn file (inl p) = or_left _ (differs-test (length file % 512) 0 p)
fails-torn file (inr w) =
    or_right (not (eqb (length file % 512) 0))
    (found (length file / 512) (λ k. torn_block (block file k)) w.0 w.1 (differs-test (number_at (block file w.0) 510 2) (sum_of (block file w.0) % 65536) w.2))

-- ---- a file's own header and patterns fit their bytes

bytes-block : (file : List ℕ) → Bytes file → (k j : ℕ) → j < 512 → get_or (block file k) j 0 < 256
bytes-block file known k j p = subst (λ (n : ℕ). n < 256) (sym (get_or-block file k j p)) (known (512 * k + j))

pattern_lt : (file : List ℕ) → Bytes file → (i : ℕ) → number file i < 256 ^ 8
unfolding number pattern
pattern_lt file known i = little-lt 8 (λ j. get_or (block file (1 + i / 63)) (8 * (i % 63) + j) 0) (λ j p. bytes-block file known (1 + i / 63) (8 * (i % 63) + j) (inside i j p))
  where
    inside : (i j : ℕ) → j < 8 → 8 * (i % 63) + j < 512
    inside i j p = omega arith

rows-lt : (file : List ℕ) → Bytes file → (header file).rows < 65536
unfolding header_of
rows-lt file known = little-lt 2 (λ j. get_or (block file 0) (4 + j) 0) (λ j p. bytes-block file known 0 (4 + j) (omega arith))

cols-lt : (file : List ℕ) → Bytes file → (header file).cols < 65536
unfolding header_of
cols-lt file known = little-lt 2 (λ j. get_or (block file 0) (6 + j) 0) (λ j p. bytes-block file known 0 (6 + j) (omega arith))

right_is : (file : List ℕ) → Bytes file → torn file ≡ false → (wrong file ≡ false → IsCard file) × (IsCard file → wrong file ≡ false)
unfolding files.file
right_is file known t = (
  (λ w. record { kind = files.right-kind file known t w; bytes = files.is-card file known t w }),
  (λ c. ap wrong c.bytes ∙ files.not-wrong (header file) (number file) (rows-lt file known) (cols-lt file known) (λ i p. pattern_lt file known i) c.kind),
)

pub answers : Answers
answers = record { read = read_is; written = written_is; torn-is = λ file. (torn-fails file, fails-torn file); wrong-is = right_is }

-- ---- cards of the same numbers

-- a card goes by the matrix's numbers alone
card-cong : (h : Header) (f g : ℕ → ℕ) → ((i : ℕ) → i < count h → f i ≡ g i) → (p : ℕ) → card_byte h f p ≡ card_byte h g p
unfolding card_byte
card-cong h f g e p =
    λ i. block_byte (λ j. files.body-cong h (p / 512) (λ r. f (63 * (p / 512 - 1) + r)) (λ r. g (63 * (p / 512 - 1) + r)) same j i) (p % 512)
  where
    below : (k d i n : ℕ) → k ≡ suc d → i < n - 63 * d → 63 * (k - 1) + i < n
    below k d i n e r = omega arith

    same : (d : ℕ) → p / 512 ≡ suc d → (i : ℕ) → i < 63 → i < count h - 63 * d → f (63 * (p / 512 - 1) + i) ≡ g (63 * (p / 512 - 1) + i)
    same d k i q r = e (63 * (p / 512 - 1) + i) (below (p / 512) d i (count h) k r)

list-cong : {A : Type 0} (n : ℕ) (f g : ℕ → A) → ((i : ℕ) → f i ≡ g i) → list_of n f ≡ list_of n g
list-cong n f g e = λ i. list_of n (λ j. e j i)

-- ---- a written card

front-list : (n : ℕ) (f : ℕ → ℕ) (s : List ℕ) → n ≤ length s → take n (stored 0 n f s) ≡ list_of n f
front-list n f s h =
    ext_get_or 0 (take n (stored 0 n f s)) (list_of n f) (long ∙ sym (length-list_of n f)) (λ i p. at i (subst (λ (m : ℕ). i < m) long p))
  where
    long : length (take n (stored 0 n f s)) ≡ n
    long = length-take-le n (stored 0 n f s) (subst (λ (m : ℕ). n ≤ m) (sym (length-stored 0 n f s)) h)

    at : (i : ℕ) → i < n → get_or (take n (stored 0 n f s)) i 0 ≡ get_or (list_of n f) i 0
    at i p =
        get_or-take n (stored 0 n f s) i 0 p
        ∙ ap (λ (k : ℕ). get_or (stored 0 n f s) k 0) (sym (zero-add i))
        ∙ stored-in 0 n f s i 0 p (omega arith)
        ∙ sym (get_or-list_of n f i 0 p)

rest-list : (n : ℕ) (f : ℕ → ℕ) (s : List ℕ) → drop n (stored 0 n f s) ≡ drop n s
rest-list n f s =
    ext_get_or 0 (drop n (stored 0 n f s)) (drop n s)
    (length-drop n (stored 0 n f s) ∙ ap (λ (m : ℕ). m - n) (length-stored 0 n f s) ∙ sym (length-drop n s))
    (λ i p. get_or-drop n (stored 0 n f s) i 0 ∙ stored-after 0 n f s (n + i) 0 (omega arith) ∙ sym (get_or-drop n s i 0))

front-is : (limit : ℕ) (h : Header) (slab : List Float) (buffer : List ℕ) → write_answer limit h (length slab) (length buffer) ≡ Done
    → take (512 * blocks h) (buffer_after limit h slab buffer) ≡ card h slab
unfolding buffer_after card
front-is limit h slab buffer e =
    (λ i. take (512 * blocks h) (changed (e i) buffer (stored 0 (512 * blocks h) (card_byte h (patterns slab)) buffer)))
    ∙ front-list (512 * blocks h) (card_byte h (patterns slab)) buffer (long (written_is limit h (length slab) (length buffer)) e)
  where
    long : {a : CardAnswer} → Written limit h (length slab) (length buffer) a → a ≡ Done → 512 * blocks h ≤ length buffer
    long (large-matrix l) e = absurd (false≢true (ap is_done e))
    long (short-lent l s) e = absurd (false≢true (ap is_done e))
    long (written-card l r s) e = s

rest-is : (limit : ℕ) (h : Header) (slab : List Float) (buffer : List ℕ) → drop (512 * blocks h) (buffer_after limit h slab buffer) ≡ drop (512 * blocks h) buffer
unfolding buffer_after
rest-is limit h slab buffer = go (write_answer limit h (length slab) (length buffer))
  where
    go : (a : CardAnswer) → drop (512 * blocks h) (changed a buffer (stored 0 (512 * blocks h) (card_byte h (patterns slab)) buffer)) ≡ drop (512 * blocks h) buffer
    go Done = rest-list (512 * blocks h) (card_byte h (patterns slab)) buffer
    go TooLarge = refl
    go TooShort = refl
    go Torn = refl
    go Wrong = refl

module _ (limit : ℕ) (h : Header) (slab : List Float) (top : limit < 65536) (k : h.kind ≤ 1) (o : oversize limit h ≡ false) (held : Numbers slab) where
  rows-small : h.rows < 65536
  rows-small = less h.rows limit (no_le limit h.rows (or-false-left (ltb limit h.rows) (ltb limit h.cols) o)) top
    where
      less : (a b : ℕ) → a ≤ b → b < 65536 → a < 65536
      less a b p q = omega arith

  cols-small : h.cols < 65536
  cols-small = less h.cols limit (no_le limit h.cols (or-false-right (ltb limit h.rows) (ltb limit h.cols) o)) top
    where
      less : (a b : ℕ) → a ≤ b → b < 65536 → a < 65536
      less a b p q = omega arith

  bits_small : (i : ℕ) → i < count h → patterns slab i < 256 ^ 8
  unfolding patterns
  bits_small i p = to_bits-lt binary64 (get_or slab i nan) (held i)

  back-header : header (card h slab) ≡ h
  unfolding card files.file
  back-header = files.header_is h (patterns slab) rows-small cols-small bits_small

  back-number : (i : ℕ) → i < count h → number_of (card h slab) i ≡ get_or slab i nan
  unfolding card files.file patterns
  back-number i p = ap (of_bits binary64) (files.number_is h (patterns slab) rows-small cols-small bits_small i p) ∙ of_bits-to_bits binary64 (get_or slab i nan) (held i)

  back-answer : (room : ℕ) → count h ≤ room → read_answer limit (card h slab) room ≡ Done
  unfolding read_answer card files.file
  back-answer room p =
      (λ i. choose (files.not-torn h (patterns slab) i) Torn
      (choose (files.not-wrong h (patterns slab) rows-small cols-small bits_small k i) Wrong
      (choose (oversize limit (back-header i)) TooLarge (choose (ltb room (count (back-header i))) TooShort Done))))
      ∙ (λ i. choose (o i) TooLarge (choose (le-ltb room (count h) p i) TooShort Done))

  back_is : (after : List Float) → count h ≤ length after
      → (reading limit (card h slab) (length after) ≡ record { answer = Done; header = h }) × (slab_after limit (card h slab) after ≡ stored 0 (count h) (λ i. get_or slab i nan) after)
  unfolding reading slab_after
  back_is after p =
      let e : read_answer limit (card h slab) (length after) ≡ Done = back-answer (length after) p in (
        (λ i. record { answer = e i; header = handed (e i) (back-header i) }),
        (λ i. changed (e i) after (stored 0 (count (back-header i)) (number_of (card h slab)) after))
            ∙ stored-cong 0 (count h) (number_of (card h slab)) (λ i. get_or slab i nan) after back-number,
      )

pub read_back : ReadBack
read_back = record { front = front-is; rest = rest-is; back = back_is }

-- ---- a single card

same_bits : (n m : ℕ) → n < 256 ^ 8 → m < 256 ^ 8 → of_bits binary64 n ≡ of_bits binary64 m → is_nan (of_bits binary64 n) ≡ false → n ≡ m
same_bits n m p q e h =
    sym (to_bits-of_bits binary64 n p (subst (λ (b : Bool). T (not b)) (sym h) tt))
    ∙ ap (to_bits binary64) e
    ∙ to_bits-of_bits binary64 m q (subst (λ (b : Bool). T (not b)) (sym (ap is_nan (sym e) ∙ h)) tt)

own_is : (limit : ℕ) (file : List ℕ) (slab : List Float) → Plain limit file (length slab) → file ≡ card (header file) (slab_after limit file slab)
unfolding card slab_after patterns
own_is limit file slab p =
    let d = read_done limit file (length slab) p.read in
    files.is-card file p.bytes d.0 d.1
    ∙ list-cong (512 * blocks (header file)) (card_byte (header file) (number file)) (card_byte (header file) (patterns (slab_after limit file slab)))
    (card-cong (header file) (number file) (patterns (slab_after limit file slab)) (λ i l. same i l d.3))
  where
    within : (i n m : ℕ) → i < n → n ≤ m → 0 + i < m
    within i n m p q = omega arith

    read_number : (i : ℕ) → i < count (header file) → count (header file) ≤ length slab → get_or (slab_after limit file slab) i nan ≡ number_of file i
    read_number i l r =
        (λ j. get_or (changed (p.read j) slab (stored 0 (count (header file)) (number_of file) slab)) i nan)
        ∙ ap (λ (k : ℕ). get_or (stored 0 (count (header file)) (number_of file) slab) k nan) (sym (zero-add i))
        ∙ stored-in 0 (count (header file)) (number_of file) slab i nan l (within i (count (header file)) (length slab) l r)

    same : (i : ℕ) → i < count (header file) → count (header file) ≤ length slab → number file i ≡ patterns (slab_after limit file slab) i
    same i l r =
        sym (to_bits-of_bits binary64 (number file i) (pattern_lt file p.bytes i) (subst (λ (b : Bool). T (not b)) (sym (p.no_nan i l)) tt))
        ∙ ap (to_bits binary64) (sym (read_number i l r))

one-is : (limit : ℕ) (file file' : List ℕ) (room : ℕ) → Plain limit file room → Bytes file' → read_answer limit file' room ≡ Done
    → header file ≡ header file' → ((i : ℕ) → i < count (header file) → number_of file i ≡ number_of file' i) → file ≡ file'
one-is limit file file' room p known r e n =
    let d = read_done limit file room p.read in
    let d' = read_done limit file' room r in
    files.is-card file p.bytes d.0 d.1
    ∙ list-cong (512 * blocks (header file)) (card_byte (header file) (number file)) (card_byte (header file) (number file'))
    (card-cong (header file) (number file) (number file') (λ i l. same_bits (number file i) (number file' i) (pattern_lt file p.bytes i) (pattern_lt file' known i) (n i l) (p.no_nan i l)))
    ∙ (λ i. list_of (512 * blocks (e i)) (card_byte (e i) (number file')))
    ∙ sym (files.is-card file' known d'.0 d'.1)

pub single-card : SingleCard
single-card = record { own = own_is; one = one-is }

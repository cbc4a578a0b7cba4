-- A file and the card of what stands on it: the card of any header and patterns is neither torn nor wrong and gives them back, and a file that is
-- neither torn nor wrong is the card of its own header and patterns.
use mathlib.Core.Path.{◌≡◌, refl, sym, ap, subst, ◌∙◌}
use mathlib.Core.Bool.{false, not, ◌||◌}
use Prim.Native.Nat.{ℕ, zero, suc, ◌+◌, ◌-◌, ◌*◌, ◌/◌, ◌%◌, ◌<◌, ◌≤◌, ◌^◌}
use native.Mathlib.Decide.{dec_lt}
use native.Mathlib.Numerals.{one-add}
use native.Mathlib.Omega.{arith}
use mathlib.Core.List.{List}
use lib.Dec.{eqb, ltb}
use lib.ListN.{length, get_or}
use lib.Seq.{ext_get_or}
use borrow.Author.Tests.{eq-eqb, le-ltb}
use Rattle.view.proofs.AnyLaws.{none, none-at, or-false-left, or-false-right, or-none}
use Rattle.encoding.specs.Little.{byte_of, little}
use Rattle.encoding.proofs.LittleLaws.{byte_of-little, little-byte_of, little-cong}
use Rattle.card.specs.declared.Header.{Header}
use Rattle.card.specs.Layout.{list_of, count, blocks, data_blocks, header_byte, data_byte, body_byte, block_byte, card_byte}
use Rattle.card.specs.Reading.{Bytes, header_of, pattern, sum_of, torn_block, departs, block, header, number, torn, wrong, number_at}
use Rattle.card.proofs.Sums.{get_or-list_of, length-list_of, total-cong}
use Rattle.card.proofs.BlockLaws.{get_or-block}
use Rattle.card.proofs.Departs.{data-index-byte, data-number, data-past, no-departure, none-departs, test-eq}
use Rattle.card.proofs.Fills.{block-front, block-sum, card-at}
use Rattle.card.proofs.Calls.{no_le, torn-rest}

equal : (x y : ℕ) → x ≡ y → not (eqb x y) ≡ false
equal x y e = rw (eq-eqb x y e)

-- ---- a block's bytes by its numbers

-- the bytes of a data block go by its first 63 numbers that are the matrix's
data-cong : (k n : ℕ) (f g : ℕ → ℕ) → ((i : ℕ) → i < 63 → i < n → f i ≡ g i) → (j : ℕ) → data_byte k n f j ≡ data_byte k n g j
data-cong k n f g h j = front (dec_lt j 504)
  where
    place : (j : ℕ) → j < 504 → j / 8 < 63
    place j h = omega arith

    number : j < 504 → Dec (j / 8 < n) → data_byte k n f j ≡ data_byte k n g j
    number l (yes q) = data-number k n f j l q ∙ ap (λ (x : ℕ). byte_of x (j % 8)) (h (j / 8) (place j l) q) ∙ sym (data-number k n g j l q)
    number l (no u) = data-past k n f j l (omega arith) ∙ sym (data-past k n g j l (omega arith))

    front : Dec (j < 504) → data_byte k n f j ≡ data_byte k n g j
    front (yes l) = number l (dec_lt (j / 8) n)
    front (no u) = data-index-byte k n f j (omega arith) ∙ sym (data-index-byte k n g j (omega arith))

pub body-cong : (h : Header) (k : ℕ) (f g : ℕ → ℕ) → ((d : ℕ) → k ≡ suc d → (i : ℕ) → i < 63 → i < count h - 63 * d → f i ≡ g i) → (j : ℕ) → body_byte h k f j ≡ body_byte h k g j
unfolding body_byte
body-cong h zero f g e j = refl
body-cong h (suc d) f g e j = data-cong (suc d) (count h - 63 * d) f g (e d refl) j

-- ---- the card of any header and patterns

inside : (k j n : ℕ) → k < n → j < 512 → 512 * k + j < 512 * n
inside k j n p q = omega arith

module _ (h : Header) (bits : ℕ → ℕ) where
  -- its patterns as block k has them
  own : ℕ → ℕ → ℕ
  own k i = bits (63 * (k - 1) + i)

  unfoldable pub file : List ℕ
  file = list_of (512 * blocks h) (card_byte h bits)

  file-length : length file ≡ 512 * blocks h
  unfolding file
  file-length = length-list_of (512 * blocks h) (card_byte h bits)

  -- byte j of its block k
  block-byte : (k j : ℕ) → k < blocks h → j < 512 → get_or (block file k) j 0 ≡ block_byte (body_byte h k (own k)) j
  unfolding file own
  block-byte k j p q =
      get_or-block file k j q
      ∙ get_or-list_of (512 * blocks h) (card_byte h bits) (512 * k + j) 0 (inside k j (blocks h) p q)
      ∙ sym (card-at h bits k j q)

  block-body : (k j : ℕ) → k < blocks h → j < 510 → get_or (block file k) j 0 ≡ body_byte h k (own k) j
  block-body k j p q = block-byte k j p (more j q) ∙ block-front (body_byte h k (own k)) j q
    where
      more : (j : ℕ) → j < 510 → j < 512
      more j q = omega arith

  block-end : (k r : ℕ) → k < blocks h → r < 2 → get_or (block file k) (510 + r) 0 ≡ byte_of (sum_of (block file k) % 65536) r
  block-end k r p q =
      block-byte k (510 + r) p (less r q) ∙ block-sum (body_byte h k (own k)) r
      ∙ (λ i. byte_of (sym (total-cong 510 (λ j. get_or (block file k) j 0) (body_byte h k (own k)) (λ j l. block-body k j p l)) i % 65536) r)
    where
      less : (r : ℕ) → r < 2 → 510 + r < 512
      less r q = omega arith

  whole-block : (k : ℕ) → k < blocks h → torn_block (block file k) ≡ false
  unfolding torn_block
  whole-block k p =
      rw (eq-eqb _ _
      (little-cong 2 (λ r. get_or (block file k) (510 + r) 0) (byte_of (sum_of (block file k) % 65536)) (λ r q. block-end k r p q)
      ∙ little-byte_of 2 (sum_of (block file k) % 65536) (small (sum_of (block file k)))))
    where
      small : (n : ℕ) → n % 65536 < 256 ^ 2
      small n = omega arith

  blocks_is : length file / 512 ≡ blocks h
  blocks_is = ap (λ (n : ℕ). n / 512) file-length ∙ back (blocks h)
    where
      back : (n : ℕ) → 512 * n / 512 ≡ n
      back n = omega arith

  pub not-torn : torn file ≡ false
  unfolding torn
  not-torn = or-none _ _ (equal (length file % 512) 0 (ap (λ (n : ℕ). n % 512) file-length ∙ rest (blocks h))) (none (length file / 512) (λ k. torn_block (block file k)) (λ k p. whole-block k (subst (λ (n : ℕ). k < n) blocks_is p)))
    where
      rest : (n : ℕ) → 512 * n % 512 ≡ 0
      rest n = omega arith

  module _ (rows : h.rows < 65536) (cols : h.cols < 65536) (small : (i : ℕ) → i < count h → bits i < 256 ^ 8) where
    first : 0 < blocks h
    unfolding blocks
    first = positive (data_blocks (count h))
      where
        positive : (n : ℕ) → 0 < 1 + n
        positive n = omega arith

    header-byte : (j : ℕ) → j < 510 → get_or (block file 0) j 0 ≡ header_byte h j
    unfolding body_byte
    header-byte j p = block-body 0 j first p

    pub header_is : header file ≡ h
    unfolding header_of header_byte
    header_is = λ i. record {
      kind = header-byte 8 (omega arith) i;
      rows = (little-cong 2 (λ j. get_or (block file 0) (4 + j) 0) (byte_of h.rows) two-rows ∙ little-byte_of 2 h.rows rows) i;
      cols = (little-cong 2 (λ j. get_or (block file 0) (6 + j) 0) (byte_of h.cols) two-cols ∙ little-byte_of 2 h.cols cols) i;
    }
      where
        two-rows : (j : ℕ) → j < 2 → get_or (block file 0) (4 + j) 0 ≡ byte_of h.rows j
        two-rows zero p = header-byte 4 (omega arith)
        two-rows (suc zero) p = header-byte 5 (omega arith)
        two-rows (suc (suc j)) p = absurd (omega arith)

        two-cols : (j : ℕ) → j < 2 → get_or (block file 0) (6 + j) 0 ≡ byte_of h.cols j
        two-cols zero p = header-byte 6 (omega arith)
        two-cols (suc zero) p = header-byte 7 (omega arith)
        two-cols (suc (suc j)) p = absurd (omega arith)

    -- number i of data block d + 1
    own-number : (d i : ℕ) → suc d < blocks h → i < 63 → i < count h - 63 * d → pattern (block file (suc d)) i ≡ bits (63 * d + i)
    unfolding pattern own body_byte
    own-number d i p q r =
        little-cong 8 (λ j. get_or (block file (suc d)) (8 * i + j) 0) (byte_of (bits (63 * (suc d - 1) + i))) each
        ∙ ap (λ (n : ℕ). little 8 (byte_of (bits (63 * n + i)))) (less d)
        ∙ little-byte_of 8 (bits (63 * d + i)) (small (63 * d + i) (below d i (count h) r))
      where
        less : (d : ℕ) → suc d - 1 ≡ d
        less d = omega arith

        below : (d i n : ℕ) → i < n - 63 * d → 63 * d + i < n
        below d i n r = omega arith

        in_block : (i j : ℕ) → i < 63 → j < 8 → 8 * i + j < 504
        in_block i j q l = omega arith

        quotient : (i j : ℕ) → j < 8 → (8 * i + j) / 8 ≡ i
        quotient i j l = omega arith

        remainder : (i j : ℕ) → j < 8 → (8 * i + j) % 8 ≡ j
        remainder i j l = omega arith

        each : (j : ℕ) → j < 8 → get_or (block file (suc d)) (8 * i + j) 0 ≡ byte_of (bits (63 * (suc d - 1) + i)) j
        each j l =
            block-body (suc d) (8 * i + j) p (wide (8 * i + j) (in_block i j q l))
            ∙ data-number (suc d) (count h - 63 * d) (own (suc d)) (8 * i + j) (in_block i j q l) (subst (λ (x : ℕ). x < count h - 63 * d) (sym (quotient i j l)) r)
            ∙ (λ k. byte_of (bits (63 * (suc d - 1) + quotient i j l k)) (remainder i j l k))
          where
            wide : (n : ℕ) → n < 504 → n < 510
            wide n l = omega arith

    no-departs : (k : ℕ) → k < blocks h → departs (header file) k (block file k) ≡ false
    unfolding own
    no-departs k p =
        ap (λ (g : Header). departs g k (block file k)) header_is
        ∙ none-departs (body_byte h k (pattern (block file k))) (block file k)
        (λ j q. block-body k j p q ∙ body-cong h k (own k) (pattern (block file k)) (mine k p) j)
      where
        less : (d : ℕ) → suc d - 1 ≡ d
        less d = omega arith

        mine : (k : ℕ) → k < blocks h → (d : ℕ) → k ≡ suc d → (i : ℕ) → i < 63 → i < count h - 63 * d → own k i ≡ pattern (block file k) i
        mine k p d e i q r =
            subst (λ (n : ℕ). own n i ≡ pattern (block file n) i) (sym e)
            (ap (λ (n : ℕ). bits (63 * n + i)) (less d) ∙ sym (own-number d i (subst (λ (n : ℕ). n < blocks h) e p) q r))

    pub not-wrong : h.kind ≤ 1 → wrong file ≡ false
    unfolding wrong
    not-wrong l =
        or-none _ _ (or-none _ _ (ap (λ (g : Header). ltb 1 g.kind) header_is ∙ le-ltb 1 h.kind l)
        (equal (length file / 512) (blocks (header file)) (blocks_is ∙ ap blocks (sym header_is))))
        (none (length file / 512) (λ k. departs (header file) k (block file k)) (λ k p. no-departs k (subst (λ (n : ℕ). k < n) blocks_is p)))

    pub number_is : (i : ℕ) → i < count h → number file i ≡ bits i
    unfolding number blocks data_blocks
    number_is i p = ap (λ (k : ℕ). pattern (block file k) (i % 63)) (one-add (i / 63)) ∙ own-number (i / 63) (i % 63) (enough i (count h) p) (under i) (left i (count h) p) ∙ ap bits (split i)
      where
        enough : (i n : ℕ) → i < n → suc (i / 63) < 1 + (n + 62) / 63
        enough i n p = omega arith

        under : (i : ℕ) → i % 63 < 63
        under i = omega arith

        left : (i n : ℕ) → i < n → i % 63 < n - 63 * (i / 63)
        left i n p = omega arith

        split : (i : ℕ) → 63 * (i / 63) + i % 63 ≡ i
        split i = omega arith

-- ---- a file that is neither torn nor wrong

module _ (given : List ℕ) (known : Bytes given) (t : torn given ≡ false) (w : wrong given ≡ false) where
  pub right-kind : (header given).kind ≤ 1
  unfolding wrong
  right-kind = no_le 1 (header given).kind (or-false-left _ _ (or-false-left _ _ w))

  right-blocks : length given / 512 ≡ blocks (header given)
  unfolding wrong
  right-blocks = test-eq (or-false-right (ltb 1 (header given).kind) _ (or-false-left _ _ w))

  right-length : length given ≡ 512 * blocks (header given)
  right-length = whole (length given) (torn-rest given t) ∙ ap (λ (n : ℕ). 512 * n) right-blocks
    where
      whole : (n : ℕ) → n % 512 ≡ 0 → n ≡ 512 * (n / 512)
      whole n h = omega arith

  right-body : (k j : ℕ) → k < blocks (header given) → j < 510 → get_or (block given k) j 0 ≡ body_byte (header given) k (pattern (block given k)) j
  unfolding wrong
  right-body k j p q =
      no-departure (body_byte (header given) k (pattern (block given k))) (block given k)
      (none-at (length given / 512) (λ k. departs (header given) k (block given k)) (or-false-right (ltb 1 (header given).kind || not (eqb (length given / 512) (blocks (header given)))) _ w) k (subst (λ (n : ℕ). k < n) (sym right-blocks) p)) j q

  right-sum : (k : ℕ) → k < blocks (header given) → number_at (block given k) 510 2 ≡ sum_of (block given k) % 65536
  unfolding torn torn_block
  right-sum k p = test-eq (none-at (length given / 512) (λ k. torn_block (block given k)) (or-false-right (not (eqb (length given % 512) 0)) _ t) k (subst (λ (n : ℕ). k < n) (sym right-blocks) p))

  -- block k's own numbers are those of the file
  right-number : (d i : ℕ) → i < 63 → pattern (block given (suc d)) i ≡ number given (63 * (suc d - 1) + i)
  unfolding number
  right-number d i p = λ j. pattern (block given (at d i p j)) (rest d i p j)
    where
      at : (d i : ℕ) → i < 63 → suc d ≡ 1 + (63 * (suc d - 1) + i) / 63
      at d i p = omega arith

      rest : (d i : ℕ) → i < 63 → i ≡ (63 * (suc d - 1) + i) % 63
      rest d i p = omega arith

  body_is : (k j : ℕ) → body_byte (header given) k (pattern (block given k)) j ≡ body_byte (header given) k (λ i. number given (63 * (k - 1) + i)) j
  body_is k j = body-cong (header given) k (pattern (block given k)) (λ i. number given (63 * (k - 1) + i)) (mine k) j
    where
      mine : (k d : ℕ) → k ≡ suc d → (i : ℕ) → i < 63 → i < count (header given) - 63 * d → pattern (block given k) i ≡ number given (63 * (k - 1) + i)
      mine k d e i q r = subst (λ (n : ℕ). pattern (block given n) i ≡ number given (63 * (n - 1) + i)) (sym e) (right-number d i q)

  known-block : (k j : ℕ) → j < 512 → get_or (block given k) j 0 < 256
  known-block k j p = subst (λ (n : ℕ). n < 256) (sym (get_or-block given k j p)) (known (512 * k + j))

  right-byte : (k j : ℕ) → k < blocks (header given) → j < 512 → Dec (j < 510) → get_or (block given k) j 0 ≡ block_byte (body_byte (header given) k (λ i. number given (63 * (k - 1) + i))) j
  right-byte k j p q (yes l) = right-body k j p l ∙ body_is k j ∙ sym (block-front (body_byte (header given) k (λ i. number given (63 * (k - 1) + i))) j l)
  right-byte k j p q (no u) =
      subst (λ (n : ℕ). get_or (block given k) n 0 ≡ block_byte (body_byte (header given) k (λ i. number given (63 * (k - 1) + i))) n) (back j u)
      (sym (byte_of-little 2 (λ r. get_or (block given k) (510 + r) 0) (λ r l. known-block k (510 + r) (less r l)) (j - 510) (two j q u))
      ∙ ap (λ (n : ℕ). byte_of n (j - 510)) (right-sum k p)
      ∙ (λ i. byte_of (total-cong 510 (λ r. get_or (block given k) r 0) (body_byte (header given) k (λ i. number given (63 * (k - 1) + i))) (λ r l. right-body k r p l ∙ body_is k r) i % 65536) (j - 510))
      ∙ sym (block-sum (body_byte (header given) k (λ i. number given (63 * (k - 1) + i))) (j - 510)))
    where
      back : (j : ℕ) → (j < 510 → ⊥) → 510 + (j - 510) ≡ j
      back j u = omega arith

      two : (j : ℕ) → j < 512 → (j < 510 → ⊥) → j - 510 < 2
      two j q u = omega arith

      less : (r : ℕ) → r < 2 → 510 + r < 512
      less r l = omega arith

  -- it is the card of its own header and patterns
  pub is-card : given ≡ list_of (512 * blocks (header given)) (card_byte (header given) (number given))
  is-card = ext_get_or 0 given _ (right-length ∙ sym (length-list_of (512 * blocks (header given)) (card_byte (header given) (number given)))) (λ p l. each p (subst (λ (n : ℕ). p < n) right-length l))
    where
      split : (p : ℕ) → 512 * (p / 512) + p % 512 ≡ p
      split p = omega arith

      within : (p n : ℕ) → p < 512 * n → p / 512 < n
      within p n l = omega arith

      under : (p : ℕ) → p % 512 < 512
      under p = omega arith

      each : (p : ℕ) → p < 512 * blocks (header given) → get_or given p 0 ≡ get_or (list_of (512 * blocks (header given)) (card_byte (header given) (number given))) p 0
      each p l =
          ap (λ (n : ℕ). get_or given n 0) (sym (split p))
          ∙ sym (get_or-block given (p / 512) (p % 512) (under p))
          ∙ right-byte (p / 512) (p % 512) (within p (blocks (header given)) l) (under p) (dec_lt (p % 512) 510)
          ∙ card-at (header given) (number given) (p / 512) (p % 512) (under p)
          ∙ ap (card_byte (header given) (number given)) (split p)
          ∙ sym (get_or-list_of (512 * blocks (header given)) (card_byte (header given) (number given)) p 0 l)

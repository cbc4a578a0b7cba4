-- Writing one block: the stores of the code leave the block that the definitions say, whatever stood there.
use mathlib.Core.Path.{◌≡◌, refl, sym, ap, subst, ◌∙◌}
use Prim.Native.Nat.{ℕ, zero, suc, ◌+◌, ◌-◌, ◌*◌, ◌/◌, ◌%◌, ◌<◌, ◌≤◌}
use native.Mathlib.Decide.{dec_lt}
use native.Mathlib.Nat.{zero-add}
use native.Mathlib.Omega.{arith}
use mathlib.Core.List.{List}
use lib.Dec.{ltb}
use lib.Ieee.{Float, binary64, nan, to_bits}
use lib.ListN.{length, get_or, take, drop, length-drop}
use lib.Seq.{ext_get_or, get_or-take, get_or-drop, length-take-le}
use borrow.Author.Tests.{lt-ltb, le-ltb}
use borrow.Rule.Slice.PartMut.{mid_of, put_mid}
use Rattle.encoding.specs.Little.{byte_of}
use Rattle.encoding.specs.Stored.{stored}
use Rattle.encoding.proofs.StoredLaws.{length-stored, stored-before, stored-cong, stored-in, stored_more, stored-part}
use Rattle.card.specs.declared.Header.{Header}
use Rattle.card.specs.Layout.{choose, index_bytes, blocks, total, count, header_byte, data_byte, body_byte, block_byte, card_byte, patterns}
use Rattle.card.specs.Reading.{sum_of}
use Rattle.card.specs.Writing.{number_byte, sealed}
use Rattle.card.proofs.Sums.{total-cong}
use Rattle.card.proofs.Counts.{left_some}
use Rattle.card.proofs.Departs.{data-number, data-past, data-low, data-high, data-rest}

-- ---- the sum

-- the first n bytes, for any n
front_of : (n : ℕ) (f : ℕ → ℕ) (s : List ℕ) (i : ℕ) → length s ≡ 512 → i < n → i < 512 → get_or (stored 0 n f s) i 0 ≡ f i
front_of n f s i l p h =
    ap (λ (k : ℕ). get_or (stored 0 n f s) k 0) (sym (zero-add i)) ∙ stored-in 0 n f s i 0 p (less i (length s) l h)
  where
    less : (i n : ℕ) → n ≡ 512 → i < 512 → 0 + i < n
    less i n l h = omega arith

pub block-front : (f : ℕ → ℕ) (i : ℕ) → i < 510 → block_byte f i ≡ f i
unfolding block_byte
block-front f i h = rw (lt-ltb _ _ h)

pub block-sum : (f : ℕ → ℕ) (r : ℕ) → block_byte f (510 + r) ≡ byte_of (total 510 f % 65536) r
unfolding block_byte
block-sum f r = rw (le-ltb (510 + r) 510 (le r)) (ap (byte_of (total 510 f % 65536)) (back r))
  where
    le : (r : ℕ) → 510 ≤ 510 + r
    le r = omega arith

    back : (r : ℕ) → 510 + r - 510 ≡ r
    back r = omega arith

-- a block whose bytes 0 to 509 are f's, with its sum stored, is f's block
pub seal-is : (f : ℕ → ℕ) (s x y : List ℕ) → length s ≡ 512 → length x ≡ 512 → ((j : ℕ) → j < 510 → get_or x j 0 ≡ f j) → y ≡ sealed x → y ≡ stored 0 512 (block_byte f) s
seal-is f s x y l m h e =
    e ∙ ext_get_or 0 (sealed x) (stored 0 512 (block_byte f) s)
    (length-stored 510 2 (byte_of (sum_of x % 65536)) x ∙ m ∙ sym (length-stored 0 512 (block_byte f) s ∙ l))
    (λ i p. at i (subst (λ (n : ℕ). i < n) (length-stored 510 2 (byte_of (sum_of x % 65536)) x ∙ m) p) (dec_lt i 510))
  where
    sums : sum_of x ≡ total 510 f
    sums = total-cong 510 (λ j. get_or x j 0) f h

    past : (i : ℕ) → (i < 510 → ⊥) → 510 + (i - 510) ≡ i
    past i n = omega arith

    last : (i : ℕ) → i < 512 → (i < 510 → ⊥) → i - 510 < 2
    last i p n = omega arith

    inside : (r n : ℕ) → r < 2 → n ≡ 512 → 510 + r < n
    inside r n p e = omega arith

    end : (r : ℕ) → r < 2 → 510 + r < 512
    end r p = omega arith

    high : (r : ℕ) → r < 2 → get_or (sealed x) (510 + r) 0 ≡ get_or (stored 0 512 (block_byte f) s) (510 + r) 0
    high r p =
        stored-in 510 2 (byte_of (sum_of x % 65536)) x r 0 p (inside r (length x) p m)
        ∙ (λ i. byte_of (sums i % 65536) r)
        ∙ sym (front_of 512 (block_byte f) s (510 + r) l (end r p) (end r p) ∙ block-sum f r)

    at : (i : ℕ) → i < 512 → Dec (i < 510) → get_or (sealed x) i 0 ≡ get_or (stored 0 512 (block_byte f) s) i 0
    at i p (yes q) = stored-before 510 2 (byte_of (sum_of x % 65536)) x i 0 q ∙ h i q ∙ sym (front_of 512 (block_byte f) s i l p p ∙ block-front f i q)
    at i p (no n) = subst (λ (k : ℕ). get_or (sealed x) k 0 ≡ get_or (stored 0 512 (block_byte f) s) k 0) (past i n) (high (i - 510) (last i p n))

-- ---- block 0

pub header-block-is : (h : Header) (s a b : List ℕ) → length s ≡ 512 → a ≡ stored 0 510 (header_byte h) s → b ≡ sealed a → b ≡ stored 0 512 (block_byte (header_byte h)) s
header-block-is h s a b l p q =
    seal-is (header_byte h) s (stored 0 510 (header_byte h) s) b l (length-stored 0 510 (header_byte h) s ∙ l) (λ j r. front_of 510 (header_byte h) s j l r (more j r)) (q ∙ ap sealed p)
  where
    more : (j : ℕ) → j < 510 → j < 512
    more j h = omega arith

-- ---- a data block

module _ (k : ℕ) (left : List Float) (s : List ℕ) (u : k < 65536) (l : length s ≡ 512) where
  numbered : List ℕ
  numbered = stored 0 504 (number_byte left) s

  indexed : List ℕ
  indexed = stored 504 6 (byte_of k) numbered

  length-indexed : length indexed ≡ 512
  unfolding indexed numbered
  length-indexed = length-stored 504 6 (byte_of k) numbered ∙ length-stored 0 504 (number_byte left) s ∙ l

  none : (r : ℕ) → byte_of 0 r ≡ 0
  unfolding byte_of
  none zero = refl
  none (suc r) = none r

  number-byte : (j : ℕ) → j < 504 → Dec (j / 8 < length left) → number_byte left j ≡ data_byte k (length left) (patterns left) j
  unfolding number_byte
  number-byte j h (yes p) = rw (lt-ltb (j / 8) (length left) p) (sym (data-number k (length left) (patterns left) j h p))
  number-byte j h (no p) = rw (le-ltb (j / 8) (length left) (omega arith)) (none (j % 8) ∙ sym (data-past k (length left) (patterns left) j h (omega arith)))

  index-byte : (r : ℕ) → r < 6 → byte_of k r ≡ data_byte k (length left) (patterns left) (504 + r)
  unfolding byte_of
  index-byte zero h = sym (data-low k (length left) (patterns left))
  index-byte (suc zero) h = high k u ∙ sym (data-high k (length left) (patterns left))
    where
      high : (k : ℕ) → k < 65536 → k / 256 % 256 ≡ k / 256
      high k u = omega arith
  index-byte (suc (suc r)) h = ap (λ (x : ℕ). byte_of x r) (gone k u) ∙ none r ∙ sym (data-rest k (length left) (patterns left) (504 + suc (suc r)) (omega arith))
    where
      gone : (k : ℕ) → k < 65536 → k / 256 / 256 ≡ 0
      gone k u = omega arith

  data-body : (j : ℕ) → j < 510 → get_or indexed j 0 ≡ data_byte k (length left) (patterns left) j
  unfolding indexed numbered
  data-body j h = go (dec_lt j 504)
    where
      back : (j : ℕ) → (j < 504 → ⊥) → 504 + (j - 504) ≡ j
      back j p = omega arith

      six : (j : ℕ) → j < 510 → (j < 504 → ⊥) → j - 504 < 6
      six j h p = omega arith

      inside : (r m : ℕ) → r < 6 → m ≡ 512 → 504 + r < m
      inside r m p e = omega arith

      last : (r : ℕ) → r < 6 → get_or indexed (504 + r) 0 ≡ data_byte k (length left) (patterns left) (504 + r)
      last r p = stored-in 504 6 (byte_of k) numbered r 0 p (inside r (length numbered) p (length-stored 0 504 (number_byte left) s ∙ l)) ∙ index-byte r p

      go : Dec (j < 504) → get_or indexed j 0 ≡ data_byte k (length left) (patterns left) j
      go (yes p) = stored-before 504 6 (byte_of k) numbered j 0 p ∙ front_of 504 (number_byte left) s j l p (omega arith) ∙ number-byte j p (dec_lt (j / 8) (length left))
      go (no p) = subst (λ (i : ℕ). get_or indexed i 0 ≡ data_byte k (length left) (patterns left) i) (back j p) (last (j - 504) (six j h p))

pub data-block-is : (k : ℕ) (left : List Float) (s a b c : List ℕ) → k < 65536 → length s ≡ 512
    → a ≡ stored 0 504 (number_byte left) s → b ≡ stored 504 6 (byte_of k) a → c ≡ sealed b
    → c ≡ stored 0 512 (block_byte (data_byte k (length left) (patterns left))) s
unfolding indexed numbered
data-block-is k left s a b c u l p q r =
    seal-is (data_byte k (length left) (patterns left)) s (indexed k left s u l) c l (length-indexed k left s u l) (data-body k left s u l)
    (r ∙ ap sealed (q ∙ (λ i. stored 504 6 (byte_of k) (p i))))

-- ---- a block of a card

pub block-first : (h : Header) (bits : ℕ → ℕ) (s t : List ℕ) (k : ℕ) → k ≡ 0 → t ≡ stored 0 512 (block_byte (header_byte h)) s → t ≡ stored 0 512 (block_byte (body_byte h k bits)) s
unfolding body_byte
block-first h bits s t k z e = e ∙ (λ i. stored 0 512 (block_byte (body_byte h (sym z i) bits)) s)

block-cong : (f g : ℕ → ℕ) → ((j : ℕ) → j < 510 → f j ≡ g j) → (j : ℕ) → block_byte f j ≡ block_byte g j
unfolding block_byte
block-cong f g h j = go (dec_lt j 510)
  where
    go : Dec (j < 510) → block_byte f j ≡ block_byte g j
    go (yes p) = block-front f j p ∙ h j p ∙ sym (block-front g j p)
    go (no n) = rw (le-ltb j 510 (omega arith)) (ap (λ (t : ℕ). byte_of (t % 65536) (j - 510)) (total-cong 510 f g h))

data-cong : (k n : ℕ) (f g : ℕ → ℕ) → ((i : ℕ) → i < n → f i ≡ g i) → (j : ℕ) → data_byte k n f j ≡ data_byte k n g j
unfolding data_byte
data-cong k n f g h j = number (dec_lt (j / 8) n)
  where
    number : Dec (j / 8 < n) → data_byte k n f j ≡ data_byte k n g j
    number (yes p) = ap (λ (x : ℕ). choose (ltb j 504) (choose (ltb (j / 8) n) (byte_of x (j % 8)) 0) (get_or (index_bytes k) (j - 504) 0)) (h (j / 8) p)
    number (no p) = rw (le-ltb (j / 8) n (omega arith))

-- what a part of the slab has are numbers of the slab
part-number : (slab : List Float) (from n i : ℕ) → i < n → patterns (take n (drop from slab)) i ≡ patterns slab (from + i)
unfolding patterns
part-number slab from n i h = ap (to_bits binary64) (get_or-take n (drop from slab) i nan h ∙ get_or-drop from slab i nan)

part-length : (slab : List Float) (from n : ℕ) → from + n ≤ length slab → length (take n (drop from slab)) ≡ n
part-length slab from n h = length-take-le n (drop from slab) (rw (length-drop from slab) (omega arith))

later-byte : (h : Header) (slab : List Float) (d : ℕ) → 63 * d + (count h - 63 * d) ≤ length slab → (left : List Float) → left ≡ take (count h - 63 * d) (drop (63 * d) slab)
    → (j : ℕ) → data_byte (suc d) (length left) (patterns left) j ≡ body_byte h (suc d) (λ i. patterns slab (63 * d + i)) j
unfolding body_byte
later-byte h slab d l left e j =
    (λ i. data_byte (suc d) (length (e i)) (patterns (e i)) j)
    ∙ ap (λ (n : ℕ). data_byte (suc d) n (patterns (take (count h - 63 * d) (drop (63 * d) slab))) j) (part-length slab (63 * d) (count h - 63 * d) l)
    ∙ data-cong (suc d) (count h - 63 * d) _ _ (λ i p. part-number slab (63 * d) (count h - 63 * d) i p) j

-- data block k has what is left for it
pub block-later : (h : Header) (slab left : List Float) (s t : List ℕ) (k n : ℕ) → (k ≡ 0 → ⊥) → k < blocks h → n ≡ count h → count h ≤ length slab
    → left ≡ take (n - 63 * (k - 1)) (drop (63 * (k - 1)) slab) → t ≡ stored 0 512 (block_byte (data_byte k (length left) (patterns left))) s
    → t ≡ stored 0 512 (block_byte (body_byte h k (λ i. patterns slab (63 * (k - 1) + i)))) s
block-later h slab left s t k n z p e l q r = r ∙ stored-cong 0 512 _ _ s (λ j _. block-cong _ _ (λ i _. same i) j)
  where
    whole : suc (k - 1) ≡ k
    whole = omega arith

    fits : 63 * (k - 1) + (count h - 63 * (k - 1)) ≤ length slab
    fits = omega (arith, left_some h k z p)

    same : (i : ℕ) → data_byte k (length left) (patterns left) i ≡ body_byte h k (λ i. patterns slab (63 * (k - 1) + i)) i
    same i =
        (λ x. data_byte (sym whole x) (length left) (patterns left) i)
        ∙ later-byte h slab (k - 1) fits left (q ∙ ap (λ (m : ℕ). take (m - 63 * (k - 1)) (drop (63 * (k - 1)) slab)) e) i
        ∙ (λ x. body_byte h (whole x) (λ i. patterns slab (63 * (k - 1) + i)) i)

-- ---- the card, block after block

pub card-at : (h : Header) (bits : ℕ → ℕ) (k j : ℕ) → j < 512 → block_byte (body_byte h k (λ i. bits (63 * (k - 1) + i))) j ≡ card_byte h bits (512 * k + j)
unfolding card_byte
card-at h bits k j p = λ i. block_byte (body_byte h (quotient k j p i) (λ r. bits (63 * (quotient k j p i - 1) + r))) (remainder k j p i)
  where
    quotient : (k j : ℕ) → j < 512 → k ≡ (512 * k + j) / 512
    quotient k j h = omega arith

    remainder : (k j : ℕ) → j < 512 → j ≡ (512 * k + j) % 512
    remainder k j h = omega arith

-- block k, stored in its part of the buffer, behind the blocks before it
pub card-next : (h : Header) (bits : ℕ → ℕ) (k : ℕ) (s t u v : List ℕ) → t ≡ stored 0 (512 * k) (card_byte h bits) s → 512 * k + 512 ≤ length s
    → u ≡ stored 0 512 (block_byte (body_byte h k (λ i. bits (63 * (k - 1) + i)))) (mid_of (512 * k) (512 * k + 512 - 512 * k) t) → v ≡ put_mid (512 * k) (512 * k + 512 - 512 * k) t u
    → v ≡ stored 0 (512 * (k + 1)) (card_byte h bits) s
card-next h bits k s t u v p l q r =
    r
    ∙ (λ i. put_mid (512 * k) (size k i) t ((q ∙ (λ j. stored 0 512 (block_byte (body_byte h k (λ r. bits (63 * (k - 1) + r)))) (mid_of (512 * k) (size k j) t))) i))
    ∙ stored-part (512 * k) 512 512 (block_byte (body_byte h k (λ r. bits (63 * (k - 1) + r)))) t (omega arith) (subst (λ (n : ℕ). 512 * k + 512 ≤ n) (sym (ap length p ∙ length-stored 0 (512 * k) (card_byte h bits) s)) l)
    ∙ ap (λ (x : List ℕ). stored (512 * k) 512 (block_byte (body_byte h k (λ r. bits (63 * (k - 1) + r)))) x) p
    ∙ ap (λ (a : ℕ). stored a 512 (block_byte (body_byte h k (λ r. bits (63 * (k - 1) + r)))) (stored 0 (512 * k) (card_byte h bits) s)) (sym (zero-add (512 * k)))
    ∙ stored_more 0 (512 * k) 512 (card_byte h bits) (block_byte (body_byte h k (λ r. bits (63 * (k - 1) + r)))) s (card-at h bits k)
    ∙ ap (λ (n : ℕ). stored 0 n (card_byte h bits) s) (more k)
  where
    size : (k : ℕ) → 512 * k + 512 - 512 * k ≡ 512
    size k = omega arith

    more : (k : ℕ) → 512 * k + 512 ≡ 512 * (k + 1)
    more k = omega arith

pub card-length : (h : Header) (bits : ℕ → ℕ) (m : ℕ) (s v : List ℕ) → v ≡ stored 0 m (card_byte h bits) s → length v ≡ length s
card-length h bits m s v e = ap length e ∙ length-stored 0 m (card_byte h bits) s

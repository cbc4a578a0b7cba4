-- Reading one block: the few tests of the code find a departure exactly where some byte departs.
use mathlib.Core.Path.{◌≡◌, refl, sym, ap, subst, ◌∙◌}
use mathlib.Core.Bool.{Bool, true, false, not}
use Prim.Native.Nat.{ℕ, zero, suc, ◌+◌, ◌-◌, ◌*◌, ◌/◌, ◌%◌, ◌<◌, ◌≤◌, min}
use native.Mathlib.Omega.{arith}
use mathlib.Core.List.{List}
use lib.Dec.{eqb}
use lib.ListN.{get_or, get_or-eq_default}
use native.Mathlib.Decide.{ℕ_discrete, dec_lt}
use borrow.Author.Tests.{eq-eqb, ne_eqb, lt-ltb, le-ltb}
use Rattle.view.proofs.AnyLaws.{finds, none, none-at, is_true, both_ways, clash}
use Rattle.encoding.specs.Little.{byte_of, little, half}
use Rattle.encoding.proofs.LittleLaws.{byte_of-little, half-little}
use Rattle.card.specs.declared.Header.{Header}
use Rattle.card.specs.Layout.{header_byte, header_bytes, index_bytes, data_byte, body_byte}
use Rattle.card.specs.Reading.{Bytes, header_of, torn_block, sum_of, differs, departs, pattern}
use Rattle.card.specs.Scanning.{nonzero, data_departs}

pub torn-is : (b : List ℕ) (n t : ℕ) → n ≡ half b 510 0 → t ≡ sum_of b → not (eqb n (t % 65536)) ≡ torn_block b
unfolding torn_block
torn-is b n t p q = λ i. not (eqb ((p ∙ half-little b 510 0) i) (q i % 65536))

-- ---- what a departure is

pub test-eq : {x y : ℕ} → not (eqb x y) ≡ false → x ≡ y
test-eq {x} {y} h = go (ℕ_discrete x y)
  where
    go : Dec (x ≡ y) → x ≡ y
    go (yes p) = p
    go (no n) = absurd (clash (rw (ne_eqb _ _ n)) h)

pub test-ne : {x y : ℕ} → not (eqb x y) ≡ true → x ≡ y → ⊥
test-ne {x} {y} h e = clash h (rw (eq-eqb _ _ e))

pub no-departure : (f : ℕ → ℕ) (b : List ℕ) → differs f b ≡ false → (j : ℕ) → j < 510 → get_or b j 0 ≡ f j
unfolding differs
no-departure f b h j p = test-eq (none-at 510 (λ j. not (eqb (get_or b j 0) (f j))) h j p)

pub none-departs : (f : ℕ → ℕ) (b : List ℕ) → ((j : ℕ) → j < 510 → get_or b j 0 ≡ f j) → differs f b ≡ false
unfolding differs
none-departs f b h = none 510 (λ j. not (eqb (get_or b j 0) (f j))) (λ j p. rw (eq-eqb _ _ (h j p)))

-- a departure is found where there being none is absurd
found-by : (f : ℕ → ℕ) (b : List ℕ) → (((j : ℕ) → j < 510 → get_or b j 0 ≡ f j) → ⊥) → true ≡ differs f b
found-by f b h = sym (is_true (differs f b) (λ e. h (no-departure f b e)))

all-zero : (b : List ℕ) (from n : ℕ) → nonzero b from n ≡ false → (j : ℕ) → j < n → get_or b (from + j) 0 ≡ 0
unfolding nonzero
all-zero b from n h j p = test-eq (none-at n (λ j. not (eqb (get_or b (from + j) 0) 0)) h j p)

some-nonzero : (b : List ℕ) (from n : ℕ) → nonzero b from n ≡ true → ((j : ℕ) → j < n → get_or b (from + j) 0 ≡ 0) → ⊥
unfolding nonzero
some-nonzero b from n h z =
    let w = finds n (λ j. not (eqb (get_or b (from + j) 0) 0)) h in
    clash w.2 (rw (eq-eqb _ _ (z w.0 w.1)))

past : (from j : ℕ) → from ≤ j → from + (j - from) ≡ j
past from j h = omega arith

zero-at : (b : List ℕ) (from n : ℕ) → nonzero b from n ≡ false → (j : ℕ) → from ≤ j → j - from < n → get_or b j 0 ≡ 0
zero-at b from n h j p q = ap (λ (k : ℕ). get_or b k 0) (sym (past from j p)) ∙ all-zero b from n h (j - from) q

-- ---- block 0

pub header-rest : (h : Header) (j : ℕ) → 9 ≤ j → header_byte h j ≡ 0
unfolding header_byte
header-rest h j p = get_or-eq_default (header_bytes h) 0 {n = j} p

pub header-letters : (b : List ℕ) (n : ℕ) → n ≡ half b 0 0 → (n ≡ 21057 → ⊥) → true ≡ departs (header_of b) 0 b
unfolding body_byte header_byte
header-letters b n e h = found-by _ b (λ g. h (e ∙ both (get_or b 0 0) (get_or b 1 0) (g 0 (omega arith)) (g 1 (omega arith))))
  where
    both : (x y : ℕ) → x ≡ 65 → y ≡ 82 → x + 256 * y ≡ 21057
    both x y p q = omega arith

pub header-letters-2 : (b : List ℕ) (n : ℕ) → n ≡ half b 2 0 → (n ≡ 19789 → ⊥) → true ≡ departs (header_of b) 0 b
unfolding body_byte header_byte
header-letters-2 b n e h = found-by _ b (λ g. h (e ∙ both (get_or b 2 0) (get_or b 3 0) (g 2 (omega arith)) (g 3 (omega arith))))
  where
    both : (x y : ℕ) → x ≡ 77 → y ≡ 77 → x + 256 * y ≡ 19789
    both x y p q = omega arith

two : (b : List ℕ) → Bytes b → (at j : ℕ) → j < 2 → get_or b (at + j) 0 ≡ byte_of (little 2 (λ j. get_or b (at + j) 0)) j
two b known at j h = sym (byte_of-little 2 (λ j. get_or b (at + j) 0) (λ j p. known (at + j)) j h)

header-all : (b : List ℕ) → Bytes b → half b 0 0 ≡ 21057 → half b 2 0 ≡ 19789 → ((j : ℕ) → 9 ≤ j → j < 510 → get_or b j 0 ≡ 0) → (j : ℕ) → j < 510 → get_or b j 0 ≡ header_byte (header_of b) j
unfolding header_byte header_of
header-all b known p q z zero h = low (get_or b 0 0) (get_or b 1 0) (known 0) (known 1) p
  where
    low : (x y : ℕ) → x < 256 → y < 256 → x + 256 * y ≡ 21057 → x ≡ 65
    low x y p q e = omega arith
header-all b known p q z (suc zero) h = high (get_or b 0 0) (get_or b 1 0) (known 0) (known 1) p
  where
    high : (x y : ℕ) → x < 256 → y < 256 → x + 256 * y ≡ 21057 → y ≡ 82
    high x y p q e = omega arith
header-all b known p q z (suc (suc zero)) h = low (get_or b 2 0) (get_or b 3 0) (known 2) (known 3) q
  where
    low : (x y : ℕ) → x < 256 → y < 256 → x + 256 * y ≡ 19789 → x ≡ 77
    low x y p q e = omega arith
header-all b known p q z (suc (suc (suc zero))) h = high (get_or b 2 0) (get_or b 3 0) (known 2) (known 3) q
  where
    high : (x y : ℕ) → x < 256 → y < 256 → x + 256 * y ≡ 19789 → y ≡ 77
    high x y p q e = omega arith
header-all b known p q z (suc (suc (suc (suc zero)))) h = two b known 4 0 (omega arith)
header-all b known p q z (suc (suc (suc (suc (suc zero))))) h = two b known 4 1 (omega arith)
header-all b known p q z (suc (suc (suc (suc (suc (suc zero)))))) h = two b known 6 0 (omega arith)
header-all b known p q z (suc (suc (suc (suc (suc (suc (suc zero))))))) h = two b known 6 1 (omega arith)
header-all b known p q z (suc (suc (suc (suc (suc (suc (suc (suc zero)))))))) h = refl
header-all b known p q z (suc (suc (suc (suc (suc (suc (suc (suc (suc j))))))))) h = z _ (nine j) h
  where
    nine : (j : ℕ) → 9 ≤ suc (suc (suc (suc (suc (suc (suc (suc (suc j))))))))
    nine j = omega arith

header-rest-all : (b : List ℕ) (m n : ℕ) → Bytes b → m ≡ half b 0 0 → m ≡ 21057 → n ≡ half b 2 0 → n ≡ 19789 → nonzero b 9 501 ≡ departs (header_of b) 0 b
unfolding body_byte
header-rest-all b m n known p p' q q' = both_ways _ _
    (λ t. sym (found-by _ b (λ g. some-nonzero b 9 501 t (λ j h. g (9 + j) (less j h) ∙ header-rest (header_of b) (9 + j) (nine j)))))
    (λ t. is_true _ (λ e. clash t (none-departs _ b (header-all b known (sym p ∙ p') (sym q ∙ q') (λ j h l. zero-at b 9 501 e j h (inside j h l))))))
  where
    less : (j : ℕ) → j < 501 → 9 + j < 510
    less j h = omega arith

    nine : (j : ℕ) → 9 ≤ 9 + j
    nine j = omega arith

    inside : (j : ℕ) → 9 ≤ j → j < 510 → j - 9 < 501
    inside j h l = omega arith

pub header-rest-is : (b : List ℕ) (m n z : ℕ) (t : Bool) → Bytes b → m ≡ half b 0 0 → m ≡ 21057 → n ≡ half b 2 0 → n ≡ 19789 → t ≡ nonzero b 9 z → z ≡ 501 → t ≡ departs (header_of b) 0 b
header-rest-is b m n z t known p p' q q' r e = r ∙ ap (nonzero b 9) e ∙ header-rest-all b m n known p p' q q'

-- ---- a data block

module _ (k n : ℕ) (bits : ℕ → ℕ) where
  pub data-number : (j : ℕ) → j < 504 → j / 8 < n → data_byte k n bits j ≡ byte_of (bits (j / 8)) (j % 8)
  unfolding data_byte
  data-number j h l = rw (lt-ltb _ _ h, lt-ltb _ _ l)

  pub data-past : (j : ℕ) → j < 504 → n ≤ j / 8 → data_byte k n bits j ≡ 0
  unfolding data_byte
  data-past j h l = rw (lt-ltb _ _ h, le-ltb _ _ l)

  pub data-low : data_byte k n bits 504 ≡ k % 256
  unfolding data_byte
  data-low = refl

  pub data-high : data_byte k n bits 505 ≡ k / 256
  unfolding data_byte
  data-high = refl

  -- past the numbers stands k alone
  pub data-index-byte : (j : ℕ) → 504 ≤ j → data_byte k n bits j ≡ get_or (index_bytes k) (j - 504) 0
  unfolding data_byte
  data-index-byte j h = rw (le-ltb j 504 h)

  pub data-rest : (j : ℕ) → 506 ≤ j → data_byte k n bits j ≡ 0
  unfolding data_byte
  data-rest j h = rw (le-ltb j 504 (omega arith)) (get_or-eq_default (index_bytes k) 0 {n = j - 504} (two-le j h))
    where
      two-le : (j : ℕ) → 506 ≤ j → 2 ≤ j - 504
      two-le j h = omega arith

-- what stands in a data block's own numbers is what its numbers make
own-number : (b : List ℕ) → Bytes b → (j : ℕ) → get_or b j 0 ≡ byte_of (pattern b (j / 8)) (j % 8)
unfolding pattern
own-number b known j =
    ap (λ (k : ℕ). get_or b k 0) (split j)
    ∙ sym (byte_of-little 8 (λ r. get_or b (8 * (j / 8) + r) 0) (λ r p. known (8 * (j / 8) + r)) (j % 8) (eight j))
  where
    split : (j : ℕ) → j ≡ 8 * (j / 8) + j % 8
    split j = omega arith

    eight : (j : ℕ) → j % 8 < 8
    eight j = omega arith

pub data-numbers : (b : List ℕ) (k n m z : ℕ) (t : Bool) → m ≡ min n 63 → z ≡ 504 - 8 * m → t ≡ nonzero b (8 * m) z → t ≡ true → true ≡ data_departs k n b
data-numbers b k n m z t e e' p q = found-by _ b (λ g. some-nonzero b (8 * m) z (sym p ∙ q) (λ j h. g (8 * m + j) (less m z j e' h) ∙ data-past k n (pattern b) (8 * m + j) (inside m z j e' h) (beyond n m z j e e' h)))
  where
    less : (m z j : ℕ) → z ≡ 504 - 8 * m → j < z → 8 * m + j < 510
    less m z j e h = omega arith

    inside : (m z j : ℕ) → z ≡ 504 - 8 * m → j < z → 8 * m + j < 504
    inside m z j e h = omega arith

    beyond : (n m z j : ℕ) → m ≡ min n 63 → z ≡ 504 - 8 * m → j < z → n ≤ (8 * m + j) / 8
    beyond n m z j e e' h = omega arith

pub data-index : (b : List ℕ) (k n x : ℕ) → x ≡ half b 504 0 → (x ≡ k → ⊥) → true ≡ data_departs k n b
data-index b k n x e h = found-by _ b (λ g. h (e ∙ both k (get_or b 504 0) (get_or b 505 0) (g 504 (omega arith) ∙ data-low k n (pattern b)) (g 505 (omega arith) ∙ data-high k n (pattern b))))
  where
    both : (k x y : ℕ) → x ≡ k % 256 → y ≡ k / 256 → x + 256 * y ≡ k
    both k x y p q = omega arith

data-all : (b : List ℕ) (k n m : ℕ) → Bytes b → m ≡ min n 63 → half b 504 0 ≡ k → ((j : ℕ) → 8 * m ≤ j → j < 504 → get_or b j 0 ≡ 0) → ((j : ℕ) → 506 ≤ j → j < 510 → get_or b j 0 ≡ 0) → (j : ℕ) → j < 510 → get_or b j 0 ≡ data_byte k n (pattern b) j
data-all b k n m known e p z y j h = front (dec_lt j 504)
  where
    low : (x y : ℕ) → x < 256 → x + 256 * y ≡ k → x ≡ k % 256
    low x y p e = omega arith

    high : (x y : ℕ) → x < 256 → x + 256 * y ≡ k → y ≡ k / 256
    high x y p e = omega arith

    last : (j ≡ 504 → ⊥) → (504 ≤ j) → Dec (j ≡ 505) → get_or b j 0 ≡ data_byte k n (pattern b) j
    last u l (yes q) = subst (λ (i : ℕ). get_or b i 0 ≡ data_byte k n (pattern b) i) (sym q) (high (get_or b 504 0) (get_or b 505 0) (known 504) p ∙ sym (data-high k n (pattern b)))
    last u l (no v) = y j (omega arith) h ∙ sym (data-rest k n (pattern b) j (omega arith))

    tail : (504 ≤ j) → Dec (j ≡ 504) → get_or b j 0 ≡ data_byte k n (pattern b) j
    tail l (yes q) = subst (λ (i : ℕ). get_or b i 0 ≡ data_byte k n (pattern b) i) (sym q) (low (get_or b 504 0) (get_or b 505 0) (known 504) p ∙ sym (data-low k n (pattern b)))
    tail l (no u) = last u l (ℕ_discrete j 505)

    number : j < 504 → Dec (j / 8 < n) → get_or b j 0 ≡ data_byte k n (pattern b) j
    number l (yes q) = own-number b known j ∙ sym (data-number k n (pattern b) j l q)
    number l (no u) = z j (omega arith) l ∙ sym (data-past k n (pattern b) j l (omega arith))

    front : Dec (j < 504) → get_or b j 0 ≡ data_byte k n (pattern b) j
    front (yes l) = number l (dec_lt (j / 8) n)
    front (no u) = tail (omega arith) (ℕ_discrete j 504)

pub data-rest-is : (b : List ℕ) (k n m z x : ℕ) (t : Bool) → Bytes b → m ≡ min n 63 → z ≡ 504 - 8 * m → t ≡ nonzero b (8 * m) z → t ≡ false → x ≡ half b 504 0 → x ≡ k → nonzero b 506 4 ≡ data_departs k n b
data-rest-is b k n m z x t known e e' p p' q q' = both_ways _ _
    (λ u. sym (found-by _ b (λ g. some-nonzero b 506 4 u (λ j h. g (506 + j) (less j h) ∙ data-rest k n (pattern b) (506 + j) (le j)))))
    (λ u. is_true _ (λ w. clash u (none-departs _ b (data-all b k n m known e (sym q ∙ q') (λ j h l. zero-at b (8 * m) z (sym p ∙ p') j h (within m z j e' h l)) (λ j h l. zero-at b 506 4 w j h (four j h l))))))
  where
    less : (j : ℕ) → j < 4 → 506 + j < 510
    less j h = omega arith

    le : (j : ℕ) → 506 ≤ 506 + j
    le j = omega arith

    within : (m z j : ℕ) → z ≡ 504 - 8 * m → 8 * m ≤ j → j < 504 → j - 8 * m < z
    within m z j e h l = omega arith

    four : (j : ℕ) → 506 ≤ j → j < 510 → j - 506 < 4
    four j h l = omega arith

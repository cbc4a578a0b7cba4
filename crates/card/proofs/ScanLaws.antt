-- The scan: what one block adds, and that the scan of a whole file is what the definitions say of it.
use mathlib.Core.Path.{◌≡◌, refl, sym, ap, ◌∙◌}
use mathlib.Core.Bool.{Bool, not, ◌||◌}
use Prim.Native.Nat.{ℕ, zero, suc, ◌+◌, ◌-◌, ◌*◌, ◌/◌, ◌%◌}
use native.Mathlib.Numerals.{add-one}
use native.Mathlib.Omega.{arith}
use mathlib.Core.List.{List, [], ◌∷◌}
use native.Mathlib.Decide.{ℕ_discrete}
use lib.Dec.{eqb, ltb}
use borrow.Author.Tests.{ne_eqb}
use lib.ListN.{length, take, drop}
use Rattle.view.specs.Any.{any}
use Rattle.encoding.specs.Little.{little}
use Rattle.card.specs.declared.Header.{Header}
use Rattle.card.specs.declared.Scan.{Scan}
use Rattle.card.specs.Answers.{Done, TooLarge, TooShort, Torn, Wrong, oversize}
use Rattle.card.specs.Layout.{choose, count, blocks}
use Rattle.card.specs.Reading.{header_of, torn_block, departs, block, header, torn, wrong, read_answer}
use Rattle.card.specs.Scanning.{heading, scanned, scan_of, scan_wrong, scan_answer}

-- ---- the blocks of a file, one after the other

pub scan_blocks : (file : List ℕ) (n : ℕ) → (scan_of file n).blocks ≡ n
unfolding scan_of scanned
scan_blocks file zero = refl
scan_blocks file (suc n) = add-one (scan_of file n).blocks ∙ ap suc (scan_blocks file n)

-- the part of a file that the code lends as block k
pub part-is : (file : List ℕ) (k : ℕ) → take (512 * k + 512 - 512 * k) (drop (512 * k) file) ≡ block file k
unfolding block
part-is file k = ap (λ (n : ℕ). take n (drop (512 * k) file)) (size k)
  where
    size : (k : ℕ) → 512 * k + 512 - 512 * k ≡ 512
    size k = omega arith

pub scan-next : (file : List ℕ) (k : ℕ) (s t : Scan) (b : List ℕ) → s ≡ scan_of file k → b ≡ block file k → t ≡ scanned s b → t ≡ scan_of file (k + 1)
unfolding scan_of
scan-next file k s t b p q r = r ∙ (λ i. scanned (p i) (q i)) ∙ ap (scan_of file) (sym (add-one k))

scan-torn : (file : List ℕ) (n : ℕ) → (scan_of file n).torn ≡ any n (λ k. torn_block (block file k))
unfolding scan_of scanned any
scan-torn file zero = refl
scan-torn file (suc n) = ap (λ (x : Bool). torn_block (block file n) || x) (scan-torn file n)

heading-suc : (k : ℕ) (h : Header) (b : List ℕ) → heading (suc k) h b ≡ h
unfolding heading
heading-suc k h b = refl

heading-is : (file : List ℕ) (n : ℕ) → heading (scan_of file n).blocks (scan_of file n).header (block file n) ≡ header file
unfolding scan_of scanned heading
heading-is file zero = refl
heading-is file (suc n) =
    ap (λ (k : ℕ). heading k (scan_of file (suc n)).header (block file (suc n))) (scan_blocks file (suc n))
    ∙ heading-suc n (scan_of file (suc n)).header (block file (suc n))
    ∙ heading-is file n

scan-header : (file : List ℕ) (n : ℕ) → (scan_of file (suc n)).header ≡ header file
unfolding scan_of scanned
scan-header file n = heading-is file n

scan-wrong : (file : List ℕ) (n : ℕ) → (scan_of file n).wrong ≡ any n (λ k. departs (header file) k (block file k))
unfolding scan_of scanned any
scan-wrong file zero = refl
scan-wrong file (suc n) = λ i. departs (heading-is file n i) (scan_blocks file n i) (block file n) || scan-wrong file n i

-- ---- the answer

pub whole-header : (file : List ℕ) (n : ℕ) → n ≡ length file / 512 → length file % 512 ≡ 0 → (scan_of file n).header ≡ header file
unfolding scan_of block header_of little
whole-header [] zero e r = refl
whole-header (x ∷ file) zero e r = absurd (full (length file) e r)
  where
    full : (m : ℕ) → 0 ≡ suc m / 512 → suc m % 512 ≡ 0 → ⊥
    full m e r = omega arith
whole-header file (suc n) e r = scan-header file n

-- a scan of the whole blocks answers as reading does
pub scan-answers : (limit : ℕ) (file : List ℕ) (room : ℕ) → scan_answer limit (scan_of file (length file / 512)) (length file % 512) room ≡ read_answer limit file room
unfolding scan_answer scan_wrong read_answer torn wrong
scan-answers limit file room = go (ℕ_discrete (length file % 512) 0)
  where
    go : Dec (length file % 512 ≡ 0) → scan_answer limit (scan_of file (length file / 512)) (length file % 512) room ≡ read_answer limit file room
    go (no n) = rw (ne_eqb _ _ n)
    go (yes e) =
        let n = length file / 512 in
        let h : (scan_of file n).header ≡ header file = whole-header file n refl e in
        λ i. choose (not (eqb (length file % 512) 0) || scan-torn file n i) Torn
        (choose (ltb 1 (h i).kind || not (eqb (scan_blocks file n i) (blocks (h i))) || scan-wrong file n i) Wrong
        (choose (oversize limit (h i)) TooLarge
        (choose (ltb room (count (h i))) TooShort Done)))

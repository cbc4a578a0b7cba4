-- The calls: what the code has worked out gives the answer, what is handed back and what is left.
use mathlib.Core.Path.{◌≡◌, refl, sym, ap, subst, ◌∙◌}
use mathlib.Core.Bool.{Bool, true, false, not, true≢false}
use Prim.Native.Nat.{ℕ, ◌+◌, ◌*◌, ◌/◌, ◌%◌, ◌<◌, ◌≤◌}
use native.Mathlib.Omega.{arith}
use mathlib.Core.List.{List}
use Rattle.std.specs.Prelude.{Ok, Err}
use lib.Dec.{T, eqb, ltb, eqb→eq, ltb→lt, nltb→le}
use lib.Ieee.{Float}
use lib.ListN.{length}
use Rattle.view.proofs.AnyLaws.{or-false-left, or-false-right}
use Rattle.encoding.specs.Stored.{stored}
use Rattle.card.specs.declared.Scan.{Scan}
use Rattle.card.specs.declared.Refusal.{Refusal}
use Rattle.card.specs.declared.Refusal.TheVariants as refusal
use Rattle.card.specs.Answers.{CardAnswer, Done, TooLarge, TooShort, Torn, Wrong, is_done, oversize, refused}
use Rattle.card.specs.Layout.{choose, count, blocks, data_blocks}
use Rattle.card.specs.Reading.{changed, handed, header, number_of, read_answer, reading, reading_of, slab_after, torn, wrong}
use Rattle.card.specs.Scanning.{scan_answer, scan_of}
use Rattle.card.proofs.Departs.{test-eq}
use Rattle.card.proofs.ScanLaws.{scan-answers, whole-header}

-- ---- tests

pub yes_lt : (a b : ℕ) → ltb a b ≡ true → a < b
yes_lt a b h = ltb→lt a b (subst T (sym h) tt)

pub no_le : (a b : ℕ) → ltb a b ≡ false → b ≤ a
no_le a b h = nltb→le a b (subst (λ (x : Bool). T (not x)) (sym h) tt)

no-rest : (n : ℕ) → not (eqb n 0) ≡ false → n ≡ 0
no-rest n h = eqb→eq n 0 (go (eqb n 0) h)
  where
    go : (b : Bool) → not b ≡ false → T b
    go true h = tt
    go false h = absurd (true≢false h)

-- ---- an answer that is Done

-- a refusal is not Done, and what it would leave is not left
refused-by : (b : Bool) (x y : CardAnswer) → is_done x ≡ false → choose b x y ≡ Done → (b ≡ false) × (y ≡ Done)
refused-by true x y n h = absurd (true≢false (sym (ap is_done h) ∙ n))
refused-by false x y n h = (refl, h)

-- a card that is read is neither torn nor wrong, its shape is within the limit, and the slab is long enough
pub read_done : (limit : ℕ) (file : List ℕ) (room : ℕ) → read_answer limit file room ≡ Done → (torn file ≡ false) × (wrong file ≡ false) × (oversize limit (header file) ≡ false) × (count (header file) ≤ room)
unfolding read_answer
read_done limit file room e =
    let p = refused-by (torn file) Torn _ refl e in
    let q = refused-by (wrong file) Wrong _ refl p.1 in
    let r = refused-by (oversize limit (header file)) TooLarge _ refl q.1 in
    let s = refused-by (ltb room (count (header file))) TooShort Done refl r.1 in
    (p.0, q.0, r.0, no_le room (count (header file)) s.0)

pub torn-rest : (file : List ℕ) → torn file ≡ false → length file % 512 ≡ 0
unfolding torn
torn-rest file h = no-rest (length file % 512) (or-false-left (not (eqb (length file % 512) 0)) _ h)

-- ---- reading

-- a refusal hands back zeros, and leaves the slab
pub read_refused : (limit : ℕ) (file : List ℕ) (slab : List Float) (e : Refusal) → refused e ≡ read_answer limit file (length slab)
    → (reading_of (Err e) ≡ reading limit file (length slab)) × (slab ≡ slab_after limit file slab)
unfolding reading slab_after
read_refused limit file slab refusal.TooLarge w = ((λ i. record { answer = w i; header = handed (w i) (header file) }), (λ i. changed (w i) slab (stored 0 (count (header file)) (number_of file) slab)))
read_refused limit file slab refusal.TooShort w = ((λ i. record { answer = w i; header = handed (w i) (header file) }), (λ i. changed (w i) slab (stored 0 (count (header file)) (number_of file) slab)))
read_refused limit file slab refusal.Torn w = ((λ i. record { answer = w i; header = handed (w i) (header file) }), (λ i. changed (w i) slab (stored 0 (count (header file)) (number_of file) slab)))
read_refused limit file slab refusal.Wrong w = ((λ i. record { answer = w i; header = handed (w i) (header file) }), (λ i. changed (w i) slab (stored 0 (count (header file)) (number_of file) slab)))

-- the scan of the whole blocks answers as reading does
pub scan-is : (limit : ℕ) (file : List ℕ) (room : ℕ) (s : Scan) (a : CardAnswer) → s ≡ scan_of file (length file / 512) → a ≡ scan_answer limit s (length file % 512) room → a ≡ read_answer limit file room
scan-is limit file room s a p q = q ∙ ap (λ (x : Scan). scan_answer limit x (length file % 512) room) p ∙ scan-answers limit file room

-- a card that is read: its header is the file's, and its numbers are in the file and fit the slab
module _ (limit : ℕ) (file : List ℕ) (room : ℕ) (s : Scan) (scan : s ≡ scan_of file (length file / 512)) (done : Done ≡ read_answer limit file room) where
  read-header : s.header ≡ header file
  read-header = ap (λ (x : Scan). x.header) scan ∙ whole-header file (length file / 512) refl (torn-rest file (read_done limit file room (sym done)).0)

  pub read-room : (n : ℕ) → n ≡ count s.header → n ≤ room
  read-room n e = subst (λ (x : ℕ). x ≤ room) (sym (e ∙ ap count read-header)) (read_done limit file room (sym done)).3

  pub read-blocks : (n : ℕ) → n ≡ count s.header → 512 * (1 + data_blocks n) ≤ length file
  unfolding wrong blocks
  read-blocks n e =
      let w : wrong file ≡ false = (read_done limit file room (sym done)).1 in
      let l : length file / 512 ≡ blocks (header file) = test-eq (or-false-right (ltb 1 (header file).kind) _ (or-false-left _ _ w)) in
      subst (λ (x : ℕ). 512 * (1 + data_blocks x) ≤ length file) (sym (e ∙ ap count read-header)) (whole (length file) (blocks (header file)) l)
    where
      whole : (l n : ℕ) → l / 512 ≡ n → 512 * n ≤ l
      whole l n e = omega arith

  pub read-accepted : (n : ℕ) → n ≡ count s.header → (slab slab' : List Float) → length slab ≡ room → slab' ≡ stored 0 n (number_of file) slab
      → (reading_of (Ok s.header) ≡ reading limit file room) × (slab' ≡ slab_after limit file slab)
  unfolding reading slab_after
  read-accepted n e slab slab' l f = (
    (λ i. record { answer = done i; header = handed (done i) (read-header i) }),
    f
        ∙ (λ i. stored 0 ((e ∙ ap count read-header) i) (number_of file) slab)
        ∙ (λ i. changed ((done ∙ sym (ap (read_answer limit file) l)) i) slab (stored 0 (count (header file)) (number_of file) slab)),
  )

-- A row that is written block by block, of w sums side by side each, in steps of w that may go past its last column.
use Rattle.std.proofs.Common.{◌≡◌, ℕ, ◌≤◌, ◌<◌, ◌+◌, ◌-◌, ◌⊎◌, min, List, refl, subst, arith}
use Rattle.std.proofs.lemmas.Bool.{cases_lt}
use mathlib.Core.Logic.{inl, inr}
use Rattle.number.specs.Kind.{Kind}
use Rattle.view.specs.declared.View.{View}
use Rattle.slabs.specs.Eight.{lane, Lanes, Block}
use Rattle.slabs.specs.Update.{Change, everywhere, span, span_rows, update_row, update_rows, update}
use Rattle.slabs.proofs.LoopLaws.{row-begun, rows-begun, span-start, span-on, span-after}
use Rattle.blas.specs.Matrix.{Matrix, accumulate}
use Rattle.product_plan.proofs.Lanes.{block_settled, column-settled}

-- of n columns, those summed with column j begin at `from` (block_start)
abbrev pub Starts : ℕ → ℕ → ℕ → ℕ → Type 0
Starts w j n from = (from ≤ j) × (j < from + w) × (from + w ≤ n) × (j + w ≤ n → from ≡ j) × (n ≤ j + w → from + w ≡ n)

-- those of them before column e end at `stop` (block_end)
abbrev pub Ends : ℕ → ℕ → ℕ → ℕ → Type 0
Ends w from e stop = (stop ≤ e) × (stop ≤ from + w) × ((j : ℕ) → j < e → j < from + w → j < stop) × (from + w ≤ e → stop ≡ from + w) × (e ≤ from + w → stop ≡ e)

-- a block is not cut
pub ends-whole : (w from e : ℕ) → from + w ≤ e → Ends w from e (from + w)
ends-whole w from e h = (h, omega arith, λ j p q. q, λ p. refl, λ p. omega arith)

pub block-of : (w j n from e stop : ℕ) → Starts w j n from → Ends w from e stop → j < e → Block w from j stop n
block-of w j n from e stop s t h = record { begins = s.0; ordered = omega (arith, t.2 j h s.1); ends = t.1; within = s.2 }

-- ---- the loop

module _ (K : Kind) (v : View) (u : Change K) (i a e : ℕ) where
  pub blocks-begun : (s : List K.Cell) → a ≤ e → s ≡ span K v u i a (min a e) s
  blocks-begun s h =
      let d : a ≡ min a e = omega arith in
      subst (λ k. s ≡ span K v u i a k s) d (span-start K v u i a s)

  -- the columns from j to before `stop`, after those before
  pub blocks-on : (j stop next : ℕ) (s₀ s t : List K.Cell) → a ≤ j → j < e → j ≤ stop → stop ≡ min next e → s ≡ span K v u i a (min j e) s₀ → t ≡ span K v u i j stop s
      → t ≡ span K v u i a (min next e) s₀
  blocks-on j stop next s₀ s t h l g d p q =
      let f : min j e ≡ j = omega arith in
      subst (λ k. t ≡ span K v u i a k s₀) d (span-on K v u i a j stop s₀ s t h g (subst (λ k. s ≡ span K v u i a k s₀) f p) q)

  pub blocks-done : (j : ℕ) (s₀ s : List K.Cell) → e ≤ j → s ≡ span K v u i a (min j e) s₀ → s ≡ span K v u i a e s₀
  blocks-done j s₀ s h p =
      let d : min j e ≡ e = omega arith in
      subst (λ k. s ≡ span K v u i a k s₀) d p

-- one block more: its sums are P's
pub blocks-next : {w : ℕ} (K : Kind) (v : View) (f h : K.Elem → K.Elem) (P : Matrix K) (i a e n j from stop : ℕ) (sums : List K.Elem) (s₀ s t : List K.Cell) → a ≤ j → j < e → e ≤ n
    → Starts w j n from → Ends w from e stop → Lanes K w sums (λ q. P i (from + q)) → s ≡ span K v (accumulate K f h P) i a (min j e) s₀
    → t ≡ span K v (accumulate K f h (λ r q. lane K sums (q - from))) i j stop s → t ≡ span K v (accumulate K f h P) i a (min (j + w) e) s₀
blocks-next {w = w} K v f h P i a e n j from stop sums s₀ s t l g m b c p q r =
    blocks-on K v (accumulate K f h P) i a e j stop (j + w) s₀ s t l g (omega (arith, c.2 j g b.1)) (stops (cases_lt (j + w) n) (cases_lt (from + w) e)) q
    (block_settled K v f h P sums i from j stop n s t (block-of w j n from e stop b c g) p r)
  where
    stops : (j + w < n) ⊎ (n ≤ j + w) → (from + w < e) ⊎ (e ≤ from + w) → stop ≡ min (j + w) e
    stops (inl x) (inl y) = let d = b.3 (omega arith) in let k = c.3 (omega arith) in omega arith
    stops (inl x) (inr y) = let d = b.3 (omega arith) in let k = c.4 y in omega arith
    stops (inr x) (inl y) = let d = b.4 x in let k = c.3 (omega arith) in omega arith
    stops (inr x) (inr y) = let d = b.4 x in let k = c.4 y in omega arith

-- all columns are the row
pub whole-row : (K : Kind) (v : View) (u : Change K) (i n : ℕ) (s t : List K.Cell) → t ≡ span K v u i 0 n s → t ≡ update_row K v everywhere u i n s
whole-row K v u i n s t e = span-after K v u i everywhere 0 n s s t (omega arith) (λ j h g. refl) (row-begun K v everywhere u i s) e

-- ---- rows of a target of one column

module _ (K : Kind) (v : View) (u : Change K) (m : ℕ) (s₀ : List K.Cell) where
  pub column-begun : s₀ ≡ update_rows K v everywhere u (min 0 m) s₀
  column-begun =
      let d : 0 ≡ min 0 m = omega arith in
      subst (λ k. s₀ ≡ update_rows K v everywhere u k s₀) d (rows-begun K v everywhere u s₀)

  pub column-done : (i : ℕ) (s : List K.Cell) → m ≡ v.rows → m ≤ i → s ≡ update_rows K v everywhere u (min i m) s₀ → s ≡ update K v everywhere u s₀
  column-done i s e g p =
      let d : min i m ≡ v.rows = omega arith in
      subst (λ k. s ≡ update_rows K v everywhere u k s₀) d p

-- a block more: its sums are P's
pub column-on : {w : ℕ} (K : Kind) (v : View) (f h : K.Elem → K.Elem) (P : Matrix K) (m i from : ℕ) (sums : List K.Elem) (s₀ s t : List K.Cell) → v.cols ≡ 1 → i < m → Starts w i m from
    → Lanes K w sums (λ q. P (from + q) 0) → s ≡ update_rows K v everywhere (accumulate K f h P) (min i m) s₀
    → t ≡ span_rows K v (accumulate K f h (λ r q. lane K sums (r - from))) i (from + w) s → t ≡ update_rows K v everywhere (accumulate K f h P) (min (i + w) m) s₀
column-on {w = w} K v f h P m i from sums s₀ s t one g b p q r =
    let d : min i m ≡ i = omega arith in
    subst (λ k. t ≡ update_rows K v everywhere (accumulate K f h P) k s₀) (stops (cases_lt (i + w) m))
    (column-settled K v f h P sums from i (from + w) m s₀ s t one (block-of w i m from m (from + w) b (ends-whole w from m b.2) g) p
    (subst (λ k. s ≡ update_rows K v everywhere (accumulate K f h P) k s₀) d q)
    r)
  where
    stops : (i + w < m) ⊎ (m ≤ i + w) → from + w ≡ min (i + w) m
    stops (inl x) = let d = b.3 (omega arith) in omega arith
    stops (inr x) = let d = b.4 x in omega arith

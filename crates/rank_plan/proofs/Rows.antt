-- A loop over the columns of a row that are in the named triangle is the fold over the row: the fold skips the others.
use Prim.Native.Nat.{ℕ, ◌+◌, ◌≤◌, ◌<◌}
use mathlib.Core.List.{List}
use mathlib.Core.Path.{◌≡◌, refl, ap, ◌∙◌}
use native.Mathlib.Omega.{arith}
use Rattle.number.specs.Kind.{Kind}
use Rattle.view.specs.declared.View.{View}
use Rattle.view.specs.declared.UpLo.{UpLo}
use Rattle.view.specs.declared.UpLo.TheVariants.{Upper, Lower}
use Rattle.view.specs.Triangle.{in_triangle, first_col, end_col}
use Rattle.view.specs.Place.{index}
use Rattle.slabs.specs.Elem.{elem}
use Rattle.slabs.specs.Update.{Change, update_row, span, replaced}
use Rattle.slabs.proofs.Columns.{columns-last, row-columns}
use Rattle.slabs.proofs.LoopLaws.{span-next}
use Rattle.rank_plan.specs.Ready.{SquareWithin}

-- ---- the columns in the named triangle

pub end_le : (uplo : UpLo) (i n : ℕ) → i < n → end_col uplo i n ≤ n
end_le Upper i n h = omega arith
end_le Lower i n h = omega arith

first-le : (uplo : UpLo) (i n : ℕ) → i < n → first_col uplo i ≤ end_col uplo i n
first-le Upper i n h = omega arith
first-le Lower i n h = omega arith

-- ---- the fold from column a on, as a loop meets it

module _ (K : Kind) (v : View) (i : ℕ) (u : Change K) (s₀ : List K.Cell) where
  -- column j becomes f of itself, which is what u says of it
  pub changed_next : (a j : ℕ) (f : K.Elem → K.Elem) (s t : List K.Cell) → a ≤ j → s ≡ span K v u i a j s₀ → t ≡ replaced K v i j f s
      → ((x : K.Elem) → f x ≡ u i j x) → t ≡ span K v u i a (j + 1) s₀
  changed_next a j f s t h p q same = span-next K v u i a j s₀ s t h p (q ∙ ap (K.put s (index v i j)) (same (elem K s v i j)))

  -- a loop from the first column in the named triangle that is left at j, where the triangle ends, has done the whole row
  pub row_done : (uplo : UpLo) (n a j e : ℕ) (s : List K.Cell) → n ≡ v.cols → i < n → a ≡ first_col uplo i → e ≡ end_col uplo i n → (a ≤ e → j ≤ e) → e ≤ j
      → s ≡ span K v u i a j s₀ → s ≡ update_row K v (in_triangle uplo) u i v.cols s₀
  row_done uplo n a j e s en h ea ee g l p =
      columns-last K v (in_triangle uplo) u u i n a e (row-columns uplo i n a e n h refl ea ee) (λ k x. refl) j s₀ s en
      (g (omega (arith, ea, ee, first-le uplo i n h)))
      l
      p

-- ---- where the loop is, in a square target

module _ (v : View) (len : ℕ) (square : SquareWithin v len) (i : ℕ) (h : i < v.rows) (n : ℕ) (en : n ≡ v.cols) where
  pub row_lt : i < n
  row_lt = omega (arith, h, en, square.cols)

  pub begins : (uplo : UpLo) (e j : ℕ) → e ≡ end_col uplo i n → j ≡ first_col uplo i → j ≤ e
  begins uplo e j ee ej = omega (arith, ee, ej, first-le uplo i n row_lt)

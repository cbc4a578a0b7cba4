-- A loop over the elements of a row that are in the named triangle.
use Prim.Native.Nat.{ℕ, ◌≤◌, ◌<◌}
use mathlib.Core.List.{List}
use mathlib.Core.Path.{◌≡◌, refl}
use Rattle.number.specs.Kind.{Kind}
use Rattle.view.specs.declared.View.{View}
use Rattle.view.specs.declared.UpLo.{UpLo}
use Rattle.view.specs.Triangle.{in_triangle, first_col, end_col}
use Rattle.slabs.specs.Update.{Change, span, update_row}
use Rattle.slabs.proofs.Columns.{columns-last, row-columns}

-- ---- a row of the named triangle, as a loop from its first column meets it: it ends where the triangle does

pub triangle_last : (K : Kind) (v : View) (uplo : UpLo) (u : Change K) (i j : ℕ) (s₀ s : List K.Cell) → i < v.cols → (first_col uplo i ≤ end_col uplo i v.cols → j ≤ end_col uplo i v.cols)
    → end_col uplo i v.cols ≤ j → s ≡ span K v u i (first_col uplo i) j s₀ → s ≡ update_row K v (in_triangle uplo) u i v.cols s₀
triangle_last K v uplo u i j s₀ s h l g e =
    let r = row-columns uplo i v.cols (first_col uplo i) (end_col uplo i v.cols) v.cols h refl refl refl in
    columns-last K v (in_triangle uplo) u u i v.cols (first_col uplo i) (end_col uplo i v.cols) r (λ j x. refl) j s₀ s refl (l r.ordered) g e

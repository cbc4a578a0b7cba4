-- Document 01's examples of refusal 5: which unknowns are solved, by computing `is_solved`.
use Prim.Native.Nat.{ℕ}
use mathlib.Core.Bool.{Bool, true, false}
use mathlib.Core.List.{List, [], ◌∷◌, map}
use mathlib.Core.Path.{◌≡◌, refl}
use lib.Dec.{eqb}
use lib.Ieee.{Float, binary64, eq, of_int}
use lib.IntN.{pos}
use Rattle.number.specs.Kind.{real64}
use Rattle.view.specs.declared.View.{View}
use Rattle.view.specs.declared.Side.{Side}
use Rattle.view.specs.declared.Side.TheVariants.{Left, Right}
use Rattle.view.specs.declared.Trans.TheVariants.{NoTrans}
use Rattle.view.specs.declared.UpLo.TheVariants.{Upper}
use Rattle.view.specs.declared.Diag.TheVariants.{NonUnit}
use Rattle.view.specs.Any.{any}
use Rattle.view.specs.Place.{view_of, place, index}
use Rattle.slabs.specs.Elem.{elem}
use Rattle.blas.specs.Solves.{is_solved}

abbrev f : ℕ → Float
f n = of_int binary64 (pos n)

-- the upper triangle of a 2 by 2 matrix by rows
abbrev solved_by : Side → View → List Float → ℕ → ℕ → Bool
solved_by side v s = is_solved real64 side Upper NoTrans NonUnit (λ b. b) (λ b. b) (elem real64 s (view_of 0 2 2 (pos 2) (pos 1))) v

-- w10, A = [[0,1],[9,2]], with a second column of B: of the first column the last unknown, of the second none
w10-solved : (l : ℕ) → map (λ q. solved_by Left (view_of 0 2 2 (pos 2) (pos 1)) (f 0 ∷ f 1 ∷ f 9 ∷ f 2 ∷ []) q l) (0 ∷ 1 ∷ []) ≡ false ∷ eqb l 0 ∷ []
unfolding any place index eq of_int
w10-solved l = refl

-- w11, A = [[1,1],[0,0]]: the first column, in every row
w11-solved : (l : ℕ) → map (λ q. solved_by Right (view_of 0 1 2 (pos 2) (pos 1)) (f 1 ∷ f 1 ∷ f 0 ∷ f 0 ∷ []) q l) (0 ∷ 1 ∷ []) ≡ true ∷ false ∷ []
unfolding any place index eq of_int
w11-solved l = refl

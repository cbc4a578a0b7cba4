-- Flags as the numbers that stand for them: the numbers of each, and the flag of each number.
use Rattle.std.specs.Prelude.{ℕ, zero, suc, Bool, true, false, ◌≡◌, ltb, Result, MatchResult}
use Rattle.view.specs.declared.Diag.{Diag}
use Rattle.view.specs.declared.Diag.TheVariants.{NonUnit, Unit}
use Rattle.view.specs.declared.Side.{Side}
use Rattle.view.specs.declared.Side.TheVariants.{Left, Right}
use Rattle.view.specs.declared.Trans.{Trans}
use Rattle.view.specs.declared.Trans.TheVariants.{NoTrans, Trans as Transposed, ConjTrans}
use Rattle.view.specs.declared.UpLo.{UpLo}
use Rattle.view.specs.declared.UpLo.TheVariants.{Upper, Lower}
use Rattle.view.specs.declared.UnknownFlag.{UnknownFlag}

abbrev pub trans_in_range : ℕ → Bool
trans_in_range n = ltb n 3

unfoldable pub trans_of : ℕ → Trans
trans_of zero = NoTrans
trans_of (suc zero) = Transposed
trans_of (suc (suc n)) = ConjTrans

abbrev pub up_lo_in_range : ℕ → Bool
up_lo_in_range n = ltb n 2

unfoldable pub up_lo_of : ℕ → UpLo
up_lo_of zero = Upper
up_lo_of (suc n) = Lower

abbrev pub side_in_range : ℕ → Bool
side_in_range n = ltb n 2

unfoldable pub side_of : ℕ → Side
side_of zero = Left
side_of (suc n) = Right

abbrev pub diag_in_range : ℕ → Bool
diag_in_range n = ltb n 2

unfoldable pub diag_of : ℕ → Diag
diag_of zero = NonUnit
diag_of (suc n) = Unit

-- the flag of a number in range, and of any other number the number back
abbrev pub Decodes : {F : Type 0} → (ℕ → Bool) → (ℕ → F) → ℕ → Result F UnknownFlag → Type 0
Decodes in_range of_number n r = MatchResult r (λ flag. (in_range n ≡ true) × (flag ≡ of_number n)) (λ e. (in_range n ≡ false) × (e.0 ≡ n))

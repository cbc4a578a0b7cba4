-- The numbers that stand for routines and number kinds in a record.
use Rattle.std.specs.Prelude.{ℕ, ◌≡◌, ◌≤◌, Option, Some, None, Result, MatchResult}
use Rattle.view.specs.declared.Answer.{Answer}
use Rattle.view.specs.Judge.{answer_number}
use Rattle.recorded_calls.specs.declared.routine.Kind.{Kind}
use Rattle.recorded_calls.specs.declared.routine.Kind.TheVariants.{F64, F32, Complex, Views}
use Rattle.recorded_calls.specs.declared.routine.Routine.{Routine}
use Rattle.recorded_calls.specs.declared.routine.Routine.TheVariants.{Gemv, Hemv, Her, Her2, Trmv, Trsv, Gemm, Symm, Hemm, Syrk, Herk, Syr2k, Her2k, Trmm, Trsm, Card}
use Rattle.recorded_calls.specs.declared.routine.UnknownNumber.{UnknownNumber}

abbrev pub routine_number : Routine → ℕ
routine_number Gemv = 0
routine_number Hemv = 1
routine_number Her = 2
routine_number Her2 = 3
routine_number Trmv = 4
routine_number Trsv = 5
routine_number Gemm = 6
routine_number Symm = 7
routine_number Hemm = 8
routine_number Syrk = 9
routine_number Herk = 10
routine_number Syr2k = 11
routine_number Her2k = 12
routine_number Trmm = 13
routine_number Trsm = 14
routine_number Card = 15

abbrev pub kind_number : Kind → ℕ
kind_number F64 = 0
kind_number F32 = 1
kind_number Complex = 2
kind_number Views = 3

-- what has number n, or n back where n is `count` or more and nothing has it
abbrev pub Decodes : {A : Type 0} → (A → ℕ) → ℕ → ℕ → Result A UnknownNumber → Type 0
Decodes number_of count n r = MatchResult r (λ x. number_of x ≡ n) (λ e. (e.0 ≡ n) × (count ≤ n))

-- the number of a call's answer, 255 where the list has no such routine
abbrev pub given_number : Option Answer → ℕ
given_number None = 255
given_number (Some answer) = answer_number answer

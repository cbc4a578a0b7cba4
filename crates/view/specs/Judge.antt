-- The answers, their numbers, and the one rule by which a call is judged: the lowest number met.
use Rattle.std.specs.Prelude.{Bool, true, false, not, ◌||◌, List, [], ◌∷◌, ℕ, zero, suc}
use Rattle.view.specs.declared.View.{View}
use Rattle.view.specs.declared.Answer.{Answer}
use Rattle.view.specs.declared.Answer.TheVariants.{Done, TooLarge, OutOfBounds, ShapeMismatch, Overlap, Singular}
use Rattle.view.specs.Refusals.{too_large, out_of_bounds, overlaps}

-- document 01's numbers
abbrev pub answer_number : Answer → ℕ
answer_number Done = 0
answer_number TooLarge = 1
answer_number OutOfBounds = 2
answer_number ShapeMismatch = 3
answer_number Overlap = 4
answer_number Singular = 5

-- and back
unfoldable pub answer_of : ℕ → Answer
answer_of zero = Done
answer_of (suc zero) = TooLarge
answer_of (suc (suc zero)) = OutOfBounds
answer_of (suc (suc (suc zero))) = ShapeMismatch
answer_of (suc (suc (suc (suc zero)))) = Overlap
answer_of (suc (suc (suc (suc (suc n))))) = Singular

-- the answer of a call that is not refused
abbrev pub is_done : Answer → Bool
is_done Done = true
is_done TooLarge = false
is_done OutOfBounds = false
is_done ShapeMismatch = false
is_done Overlap = false
is_done Singular = false

-- a view of a call, with the length of its slab in elements
pub record Arg : Type 0 where
  pub view : View
  pub len : ℕ

abbrev pub arg : View → ℕ → Arg
arg v n = record { view = v; len = n }

-- whether f passes at some view of the call
abbrev pub any_of : (Arg → Bool) → List Arg → Bool
any_of f [] = false
any_of f (a ∷ rest) = f a || any_of f rest

-- the refusal where its condition is met, else the later ones' answer
abbrev pub refuse : Bool → Answer → Answer → Answer
refuse true a later = a
refuse false a later = later

-- the lowest number met, by whether some view is too large, some is out of bounds, and the shapes are wrong
abbrev pub lowest_of : Bool → Bool → Bool → View → Answer
lowest_of large out wrong target =
    refuse large TooLarge
    (refuse out OutOfBounds
    (refuse wrong ShapeMismatch
    (refuse (overlaps target) Overlap Done)))

-- a call's views in the order of its arguments, whether their shapes go together, and its target
unfoldable pub judge : List Arg → Bool → View → Answer
judge args shapes target =
    lowest_of
    (any_of (λ a. too_large a.view) args)
    (any_of (λ a. out_of_bounds a.view a.len) args)
    (not shapes)
    target

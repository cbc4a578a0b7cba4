-- The answers of the card calls and their numbers, and refusal 1 of a shape, by the limit. Assumes nothing.
use Rattle.std.specs.Prelude.{ℕ, Bool, true, false, ◌||◌, ltb, Result, Ok, Err}
use Rattle.view.specs.declared.Answer.TheVariants as base
use Rattle.view.specs.Judge.{answer_number}
use Rattle.card.specs.declared.Header.{Header}
use Rattle.card.specs.declared.Kind.{Kind}
use Rattle.card.specs.declared.Kind.TheVariants.{Real, Complex}
use Rattle.card.specs.declared.Refusal.{Refusal}
use Rattle.card.specs.declared.Refusal.TheVariants as refusal

-- what a card call answers: done, or the refusal
pub data CardAnswer : Type 0 where
  Done : CardAnswer
  TooLarge : CardAnswer
  TooShort : CardAnswer
  Torn : CardAnswer
  Wrong : CardAnswer

-- document 01's numbers, and request 1's 6 and 7
abbrev pub card_number : CardAnswer → ℕ
card_number Done = answer_number base.Done
card_number TooLarge = answer_number base.TooLarge
card_number TooShort = answer_number base.OutOfBounds
card_number Torn = 6
card_number Wrong = 7

abbrev pub is_done : CardAnswer → Bool
is_done Done = true
is_done TooLarge = false
is_done TooShort = false
is_done Torn = false
is_done Wrong = false

-- the answer of a refusal
abbrev pub refused : Refusal → CardAnswer
refused refusal.TooLarge = TooLarge
refused refusal.TooShort = TooShort
refused refusal.Torn = Torn
refused refusal.Wrong = Wrong

-- and of what a call returns
abbrev pub answer_of : {A : Type 0} → Result A Refusal → CardAnswer
answer_of (Ok x) = Done
answer_of (Err e) = refused e

abbrev pub refusal_number : Refusal → ℕ
refusal_number e = card_number (refused e)

-- a kind is 0 or 1
abbrev pub kind_number : Kind → ℕ
kind_number Real = 0
kind_number Complex = 1

-- more rows or columns than the limit
abbrev pub oversize : ℕ → Header → Bool
oversize limit h = ltb limit h.rows || ltb limit h.cols

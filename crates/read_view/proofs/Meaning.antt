-- What the definition of a read means, over any number kind: on a view that is accepted, an element of its shape is found, and any other is refusal 2; a view that is not accepted gives its own refusal.
use Prim.Native.Nat.{ℕ, ◌<◌}
use mathlib.Core.Path.{◌≡◌, refl, sym, ap, ◌∙◌}
use mathlib.Core.Bool.{Bool, true, false, cond}
use mathlib.Core.List.{List, [], ◌∷◌}
use Rattle.number.specs.Kind.{Kind}
use Rattle.view.specs.declared.View.{View}
use Rattle.view.specs.declared.Answer.{Answer}
use Rattle.view.specs.declared.Answer.TheVariants.{Done, OutOfBounds}
use Rattle.view.specs.Any.{any}
use Rattle.view.specs.Refusals.{overlaps}
use Rattle.view.specs.Steps.{Accepted}
use Rattle.view.specs.Judge.{arg, is_done}
use Rattle.view.proofs.JudgeLaws.{passed-judge}
use Rattle.view.specs.Checks.{no_target, read_check}
use Rattle.slabs.specs.Elem.{elem}
use Rattle.read_view.specs.Read.{in_shape, read_answer, read_at}
use Rattle.read_view.proofs.Answers.{in-shape, refused as refused-first, has}

-- a view of no elements has no two on one place
none-shared : overlaps no_target ≡ false
unfolding overlaps any
none-shared = refl

accepted-done : (v : View) (n : ℕ) → Accepted v n → read_check v n ≡ Done
accepted-done v n h = passed-judge (arg v n ∷ []) true no_target (record { each = (h, tt); shape = refl; distinct = none-shared })

module _ {A : Type 0} (K : Kind) (number : K.Elem → A) (refused : Answer → A) (s : List K.Cell) (v : View) (r c : ℕ) where
  by_answer : (a : Answer) → read_answer v (K.count s) r c ≡ a → read_at K number refused s v r c ≡ cond (is_done a) (number (elem K s v r c)) (refused a)
  unfolding read_at
  by_answer a e = ap (λ (a : Answer). cond (is_done a) (number (elem K s v r c)) (refused a)) e

  pub shown-found : Accepted v (K.count s) → r < v.rows → c < v.cols → read_at K number refused s v r c ≡ number (elem K s v r c)
  shown-found h p q =
      by_answer Done (sym (in-shape v (K.count s) r c Done true (sym (accepted-done v (K.count s) h)) refl refl true (has v r c p q)))

  pub absent-refused : Accepted v (K.count s) → in_shape v r c ≡ false → read_at K number refused s v r c ≡ refused OutOfBounds
  absent-refused h e =
      by_answer OutOfBounds (sym (in-shape v (K.count s) r c Done true (sym (accepted-done v (K.count s) h)) refl refl false e))

  pub view-refused : is_done (read_check v (K.count s)) ≡ false → read_at K number refused s v r c ≡ refused (read_check v (K.count s))
  view-refused e =
      by_answer (read_check v (K.count s)) (sym (refused-first v (K.count s) r c (read_check v (K.count s)) false refl (sym e) refl))
      ∙ ap (λ (b : Bool). cond b (number (elem K s v r c)) (refused (read_check v (K.count s)))) e

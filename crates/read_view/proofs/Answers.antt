-- What a read's answer gives whoever works it out and whoever reads by it, over any number kind.
use Prim.Native.Nat.{ℕ, ◌<◌}
use mathlib.Core.Path.{◌≡◌, refl, sym, ap, ◌∙◌}
use mathlib.Core.Bool.{Bool, true, false, not, cond}
use mathlib.Core.List.{List}
use lib.Dec.{ltb}
use borrow.Author.Tests.{ltb-true, lt-ltb}
use Rattle.number.specs.Kind.{Kind}
use Rattle.view.specs.declared.View.{View}
use Rattle.view.specs.declared.Answer.{Answer}
use Rattle.view.specs.declared.Answer.TheVariants.{Done, OutOfBounds}
use Rattle.view.proofs.AnyLaws.{clash, and_left, and_right, and_both}
use Rattle.view.specs.Judge.{is_done, refuse}
use Rattle.view.proofs.JudgeLaws.{judge-passed}
use Rattle.view.specs.Checks.{read_check}
use Rattle.slabs.specs.Elem.{elem, Within}
use Rattle.blas.proofs.OutcomeLaws.{done-is, check_done}
use Rattle.read_view.specs.Read.{in_shape, read_answer, read_at}

-- ---- working the answer out

module _ (v : View) (n r c : ℕ) (a : Answer) (flag : Bool) (checked : a ≡ read_check v n) (told : flag ≡ is_done a) where
  -- the view is accepted, and whether it has an element (r, c) is known
  pub in-shape : flag ≡ true → (b : Bool) → in_shape v r c ≡ b → refuse (not b) OutOfBounds Done ≡ read_answer v n r c
  unfolding read_answer
  in-shape h b e =
      let d : is_done (read_check v n) ≡ true = ap is_done (check_done _ a flag checked told h) in
      sym (λ i. cond (d i) (refuse (not (e i)) OutOfBounds Done) (read_check v n))

  pub refused : flag ≡ false → a ≡ read_answer v n r c
  unfolding read_answer
  refused h =
      let d : is_done (read_check v n) ≡ false = ap is_done (sym checked) ∙ sym told ∙ h in
      checked ∙ sym (ap (λ (b : Bool). cond b (refuse (not (in_shape v r c)) OutOfBounds Done) (read_check v n)) d)

pub has : (v : View) (r c : ℕ) → r < v.rows → c < v.cols → in_shape v r c ≡ true
has v r c p q = and_both (ltb r v.rows) (ltb c v.cols) (lt-ltb r v.rows p) (lt-ltb c v.cols q)

-- ---- reading by an answer that is Done

unrefused : (b : Bool) (x y : Answer) → is_done y ≡ b → is_done (cond b x y) ≡ true → (b ≡ true) × (is_done x ≡ true)
unrefused true x y e h = (refl, h)
unrefused false x y e h = absurd (clash h e)

inside : (b : Bool) → is_done (refuse (not b) OutOfBounds Done) ≡ true → b ≡ true
inside true h = refl
inside false h = h

reads : (v : View) (n r c : ℕ) → read_answer v n r c ≡ Done → Within v n r c
unfolding read_answer
reads v n r c h =
    let p = unrefused (is_done (read_check v n)) (refuse (not (in_shape v r c)) OutOfBounds Done) (read_check v n) refl (ap is_done h) in
    let q = inside (in_shape v r c) p.1 in
    record {
      fits = (judge-passed _ _ _ (done-is (read_check v n) p.0)).each.0;
      row = ltb-true r v.rows (and_left (ltb r v.rows) (ltb c v.cols) q);
      col = ltb-true c v.cols (and_right (ltb r v.rows) (ltb c v.cols) q);
    }

module _ (v : View) (n r c : ℕ) (a : Answer) (flag : Bool) (answered : a ≡ read_answer v n r c) (told : flag ≡ is_done a) (passed : flag ≡ true) where
  pub within : Within v n r c
  within = reads v n r c (check_done _ a flag answered told passed)

-- ---- what is found, as `number` and `refused` hold it

module _ {A : Type 0} (K : Kind) (number : K.Elem → A) (refused : Answer → A) (s : List K.Cell) (v : View) (r c : ℕ)
    (a : Answer) (flag : Bool) (answered : a ≡ read_answer v (K.count s) r c) (told : flag ≡ is_done a) where
  by : Answer → A
  by a = cond (is_done a) (number (elem K s v r c)) (refused a)

  pub found_number : flag ≡ true → (x : K.Elem) → x ≡ elem K s v r c → number x ≡ read_at K number refused s v r c
  unfolding by read_at
  found_number h x e = ap number e ∙ sym (ap by (check_done _ a flag answered told h))

  pub found-refusal : flag ≡ false → refused a ≡ read_at K number refused s v r c
  unfolding by read_at
  found-refusal h = sym (ap (λ (b : Bool). cond b (number (elem K s v r c)) (refused a)) (sym told ∙ h)) ∙ ap by answered

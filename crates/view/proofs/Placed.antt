-- Each step of working out a place fits a signed integer of 64 bits.
use mathlib.Core.Path.{◌≡◌}
use Prim.Native.Nat.{ℕ, ◌^◌, ◌<◌}
use native.Mathlib.Nat.{zero-mul}
use native.Mathlib.Omega.{arith}
use lib.IntN.{pos, ◌+ℤ◌, ◌*ℤ◌}
use mir.Syntax.{w64}
use mir.Val.{SFits}
use Rattle.view.specs.declared.View.{View}
use Rattle.view.specs.Place.{place, index}
use Rattle.view.specs.Steps.{up, down, Shown}
use Rattle.view.proofs.Signs.{diff-pos, diff-add, diff-steps, diff-mag}
use Rattle.view.proofs.PlaceLaws.{fits→inside, fits→place, diff-place}

pub record Sound (v : View) (r c : ℕ) : Type 0 where
  pub start-lt : v.start < 2 ^ 63
  pub row_lt : r < 2 ^ 63
  pub col-lt : c < 2 ^ 63
  pub row : SFits w64 (pos r *ℤ v.rs)
  pub part : SFits w64 (pos v.start +ℤ pos r *ℤ v.rs)
  pub col : SFits w64 (pos c *ℤ v.cs)
  pub whole : SFits w64 (pos v.start +ℤ pos r *ℤ v.rs +ℤ pos c *ℤ v.cs)
  pub is : pos v.start +ℤ pos r *ℤ v.rs +ℤ pos c *ℤ v.cs ≡ pos (index v r c)

pub sound : (v : View) (r c : ℕ) → Shown v r c → Sound v r c
unfolding place
sound v r c s =
    let f = s.accepted.fits in
    let p : 0 < v.rows = omega (arith, s.row) in
    let q : 0 < v.cols = omega (arith, s.col) in
    let i₀ = fits→inside v s.len f 0 0 p q in
    let i₁ = fits→inside v s.len f r 0 s.row q in
    let i₂ = fits→inside v s.len f 0 c p s.col in
    let i₃ = fits→inside v s.len f r c s.row s.col in
    let z₀ = zero-mul (up v.rs) in
    let z₁ = zero-mul (up v.cs) in
    let z₂ = zero-mul (down v.rs) in
    let z₃ = zero-mul (down v.cs) in
    let start-lt : v.start < 2 ^ 63 = omega (arith, i₀.high, s.len-le) in
    record {
      start-lt = start-lt;
      row_lt = omega (arith, s.row, s.accepted.rows-le);
      col-lt = omega (arith, s.col, s.accepted.cols-le);
      row = record { sfits = diff-mag (pos r *ℤ v.rs) (2 ^ 63) (diff-steps r v.rs) (omega (arith, i₁.high, s.len-le)) (omega (arith, i₁.low)) };
      part = record { sfits = diff-mag (pos v.start +ℤ pos r *ℤ v.rs) (2 ^ 63) (diff-add (pos v.start) (pos r *ℤ v.rs) (diff-pos v.start) (diff-steps r v.rs)) (omega (arith, i₁.high, s.len-le)) (omega (arith, i₁.low)) };
      col = record { sfits = diff-mag (pos c *ℤ v.cs) (2 ^ 63) (diff-steps c v.cs) (omega (arith, i₂.high, s.len-le)) (omega (arith, i₂.low)) };
      whole = record { sfits = diff-mag (place v r c) (2 ^ 63) (diff-place v r c) (omega (arith, i₃.high, s.len-le)) (omega (arith, i₃.low)) };
      is = fits→place v s.len f r c s.row s.col;
    }

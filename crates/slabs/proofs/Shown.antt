-- An element that a view shows is inside its slab.
use Prim.Native.Nat.{ℕ, ◌+◌, ◌*◌, ◌≤◌, ◌<◌, ◌^◌}
use mathlib.Core.Path.{◌≡◌, sym, subst}
use native.Mathlib.Omega.{arith}
use lib.IntN.{ℤ, pos}
use Rattle.view.specs.declared.View.{View}
use Rattle.view.specs.Place.{index}
use Rattle.view.proofs.PlaceLaws.{fits→index-lt, fits→inside, index_is}
use Rattle.view.specs.Steps.{Shown, up, down}
use Rattle.slabs.specs.Elem.{Within}

module _ (v : View) (len r c : ℕ) (h : Within v len r c) where
  pub shown : len ≤ 2 ^ 63 → Shown v r c
  shown g = record { len = len; len-le = g; accepted = h.fits; row = h.row; col = h.col }

  pub inside : (k : ℕ) → k ≡ index v r c → k < len
  inside k e = subst (λ (i : ℕ). i < len) (sym e) (fits→index-lt v len h.fits.fits r c h.row h.col)

-- elements of a row by a column stride of 1 lie side by side
pub beside : (v : View) (len r c t : ℕ) → v.cs ≡ pos 1 → Within v len r (c + t) → index v r (c + t) ≡ index v r c + t
beside v len r c t one h =
    let l : c < v.cols = omega (arith, h.col) in
    let near = index_is v len r c (fits→inside v len h.fits.fits r c h.row l) in
    let far = index_is v len r (c + t) (fits→inside v len h.fits.fits r (c + t) h.row h.col) in
    go v.cs one near far
  where
    go : (z : ℤ) → z ≡ pos 1 → index v r c + (r * down v.rs + c * down z) ≡ v.start + r * up v.rs + c * up z
        → index v r (c + t) + (r * down v.rs + (c + t) * down z) ≡ v.start + r * up v.rs + (c + t) * up z → index v r (c + t) ≡ index v r c + t
    go z e p q =
        let p' = subst (λ (w : ℤ). index v r c + (r * down v.rs + c * down w) ≡ v.start + r * up v.rs + c * up w) e p in
        let q' = subst (λ (w : ℤ). index v r (c + t) + (r * down v.rs + (c + t) * down w) ≡ v.start + r * up v.rs + (c + t) * up w) e q in
        omega (arith, p', q')

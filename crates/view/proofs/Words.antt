-- The names that the proofs of this crate use.
pub use Prim.Native.Nat.{◌<◌, ◌^◌}
pub use mathlib.Core.Path.{◌∙◌, ◌≡◌, ap, subst, sym}
pub use native.Mathlib.Omega.{arith}
pub use lib.Dec.{T}
pub use lib.IntN.{◌*ℤ◌, ◌+ℤ◌, nat_abs, pos, ℤ}
pub use lib.Signed.{non_neg}
pub use mir.Facts.{to_z-of_z}
pub use mir.Syntax.{w64}
pub use mir.Val.{Fits, SFits, of_z, to_z}
pub use mir.ValLaws.{to_z_pos}
pub use borrow.Author.Rules.{rules}
pub use Rattle.view.proofs.JudgeLaws.{vector-sizes}
pub use Rattle.view.proofs.Placed.{Sound, sound}
pub use Rattle.view.proofs.VectorLaws.{upright-start, upright-stride}
pub use Rattle.view.specs.Place.{index}
pub use Rattle.view.specs.declared.View.{View}

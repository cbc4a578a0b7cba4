-- The views, flags and answers that the proofs name.
pub use Rattle.view.specs.declared.View.{View}
pub use Rattle.view.specs.declared.Answer.{Answer}
pub use Rattle.view.specs.declared.Answer.TheVariants.{Done, TooLarge, OutOfBounds, ShapeMismatch, Overlap, Singular}
pub use Rattle.view.specs.declared.Trans.{Trans}
pub use Rattle.view.specs.declared.Trans.TheVariants.{NoTrans, Trans as Transposed, ConjTrans}
pub use Rattle.view.specs.declared.UpLo.{UpLo}
pub use Rattle.view.specs.declared.UpLo.TheVariants.{Upper, Lower}
pub use Rattle.view.specs.declared.Diag.{Diag}
pub use Rattle.view.specs.declared.Diag.TheVariants.{Unit, NonUnit}
pub use Rattle.view.specs.declared.Side.{Side}
pub use Rattle.view.specs.declared.Side.TheVariants.{Left, Right}

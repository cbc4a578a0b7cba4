-- What the numbers of a list mean: those of bytes and bits are encoding's definitions.
pub use Rattle.encoding.specs.Little
pub use Rattle.encoding.specs.Alike
pub mod Numbers

-- Numbers as bytes, what is stored in a list, and numbers by their bits.
pub mod Little
pub mod Stored
pub mod Alike

-- Lemmas that several proofs of the crate cite; the laws of bytes and of stores, which other crates cite too.
mod Nan
pub mod LittleLaws
pub mod StoredLaws

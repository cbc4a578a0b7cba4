-- Lemmas that several proofs of the crate cite; other crates cite those that are public.
mod Counts
mod ScanLaws
pub mod Sums
pub mod BlockLaws
pub mod Departs
pub mod Fills
pub mod Calls

-- Lemmas that several proofs cite.
mod Extent
mod Multiples
mod ShapeLaws
mod Runs
mod Sizes
mod Views
mod Passes
mod Ops
mod Ordinary

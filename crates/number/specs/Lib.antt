-- The definitions that the number kinds' contracts and laws cite.
-- Kind: what a number kind is, and document 01's three. Scaling: beta and the target. Integers: the exact kinds. Laws: what holds of a kind.
pub mod Kind
pub mod Scaling
pub mod Integers
pub mod Laws

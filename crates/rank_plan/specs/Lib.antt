-- What the contracts of the rank updates cite: the plan of two matrices, what becomes of an element of the target,
-- and what they ask of the slabs.
pub mod Plan
pub mod Change
pub mod Ready

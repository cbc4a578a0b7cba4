-- Laws that several proofs of the crate cite: what an answer gives; and what the definition of a read means.
mod Answers
mod Meaning

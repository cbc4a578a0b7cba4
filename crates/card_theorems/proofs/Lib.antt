-- Proofs of what holds of cards.
mod Files
mod CardLaws
mod Table

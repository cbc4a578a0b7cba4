-- How many numbers and blocks a card has, and where they lie. Assumes nothing.
use Rattle.std.proofs.Common.{◌≡◌, ℕ, ◌+◌, ◌-◌, ◌*◌, ◌/◌, ◌<◌, ◌≤◌, arith}
use native.Mathlib.Nat.{mul-le-mul}
use Rattle.card.specs.declared.Header.{Header}
use Rattle.card.specs.Layout.{count, data_blocks, blocks}

-- a data block of the card has numbers left
pub left_some : (h : Header) (k : ℕ) → (k ≡ 0 → ⊥) → k < blocks h → 63 * (k - 1) ≤ count h
unfolding blocks data_blocks
left_some h k z p = omega arith

-- the block of number i is among those of n numbers
pub block_fits : (n i l : ℕ) → i < n → 512 * (1 + data_blocks n) ≤ l → 512 * (1 + i / 63) + 512 ≤ l
unfolding data_blocks
block_fits n i l h p = omega arith

-- the card of a matrix within the limit is small
pub small_blocks : (h : Header) → h.rows ≤ 64 → h.cols ≤ 64 → h.kind ≤ 1 → blocks h ≤ 132
unfolding blocks data_blocks count
small_blocks h p q r = few (h.rows * h.cols * (1 + h.kind)) (mul-le-mul (mul-le-mul p q) (two h.kind r))
  where
    two : (k : ℕ) → k ≤ 1 → 1 + k ≤ 2
    two k h = omega arith

    few : (n : ℕ) → n ≤ 64 * 64 * 2 → 1 + (n + 62) / 63 ≤ 132
    few n h = omega arith

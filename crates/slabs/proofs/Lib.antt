-- The laws of the fold that replaces shown elements.
pub mod UpdateLaws
pub mod LoopLaws
pub mod Columns
pub mod EightLaws
pub mod Shown
pub mod RunLaws

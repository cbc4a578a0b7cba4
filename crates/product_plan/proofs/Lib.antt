-- The laws of plans, over any number kind, and why a call that its check passes is ready.
pub mod Sums
pub mod Lanes
pub mod Rows
pub mod Blocks
pub mod Products
pub mod Ready
pub mod Upper
pub mod Kernels
pub mod Scales
pub mod Steps

-- Loops over the named triangle, what becomes of an element, sums side by side, why a call that its check passes is
-- ready, and what each kernel has to show.
pub mod Rows
pub mod Laws
pub mod Sums
pub mod Ready
pub mod Kernels

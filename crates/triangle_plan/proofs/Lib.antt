-- The laws of the triangular routines, over any number kind; each function's proof cites them.
pub mod WalkLaws
pub mod InOrder
pub mod Systems
pub mod Judged
pub mod Runs
pub mod LineSums
pub mod Lines
pub mod Rows
pub mod Solves
pub mod SolveKernels
pub mod Multiplies
pub mod ProductKernels

-- The BLAS routines, each in a file of its own, for any number kind. Matrix has what they share, Outcome what a call answers and leaves;
-- Elements and Solves say it element by element.
pub mod Matrix
pub mod Outcome
pub mod Elements
pub mod Gemv
pub mod Hemv
pub mod Gemm
pub mod Symm
pub mod Hemm
pub mod Syrk
pub mod Herk
pub mod Her
pub mod Her2
pub mod Syr2k
pub mod Her2k
pub mod Triangular
pub mod Trmv
pub mod Trmm
pub mod Substitution
pub mod Trsv
pub mod Trsm
pub mod Solves

-- What the theorems state: Exactness, ExactProducts, ExactRank and ExactTriangles on whole numbers, Agreement and TriangularAgreement on what a
-- routine can see of a matrix, Calls on how both hold of the kernels, Table the worked examples.
pub mod Exactness
pub mod ExactProducts
pub mod ExactRank
pub mod ExactTriangles
pub mod Agreement
pub mod TriangularAgreement
pub mod Calls
pub mod Table

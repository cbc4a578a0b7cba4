-- Proofs of the theorems, over any number kind with its laws, then for each kind. Table: document 01's worked examples; Points: calls beside them.
-- Respects: what sums, products and readings of a matrix respect; Triangles: how a triangular routine reads A. Both theorems rest on them.
-- Rings, IntegerRings: what whole numbers have and floats lack.
-- Exact*: exactness on whole numbers; ExactInstances has the theorems for f64 and complex. Agree*: what a routine can see of a matrix;
-- AgreeKinds has the theorems for the three kinds. Examples: both theorems on given slabs. Calls: both of the kernels. Words: names that all use.
pub mod Words
pub mod Table
pub mod Points
pub mod Respects
pub mod Triangles
pub mod Rings
pub mod IntegerRings
pub mod ExactBasis
pub mod ExactRoutines
pub mod ExactInstances
pub mod AgreeCalls
pub mod AgreeProducts
pub mod AgreeTriangles
pub mod AgreeSolves
pub mod AgreeKinds
pub mod Examples
pub mod Calls

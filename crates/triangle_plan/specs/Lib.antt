-- What the triangular engine's contracts cite, over any number kind.
pub mod Walk
pub mod Lanes
pub mod Triangles
pub mod Solve
pub mod Multiply
pub mod Ready

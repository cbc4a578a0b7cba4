-- The laws of views, which other crates cite too.
mod Placed
pub mod AnyLaws
pub mod Signs
pub mod PlaceLaws
pub mod TransposeLaws
pub mod OverlapLaws
pub mod VectorLaws
pub mod JudgeLaws
mod Words

-- What the contracts of `view` cite.
pub mod Any
pub mod Place
pub mod Refusals
pub mod Vector
pub mod Triangle
pub mod Judge
pub mod Checks
pub mod Steps
pub mod Flags

-- Laws of what the definitions share, over any number kind.
pub mod SumLaws
pub mod OutcomeLaws
pub mod Elements
pub mod OverLaws
pub mod SubstitutionLaws
pub mod Solves
pub mod SolvesExamples
pub mod OpLaws

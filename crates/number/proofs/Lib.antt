-- The number kinds' laws and the lemmas that the functions' proofs share. Instances has one of each law record for each kind.
pub mod Literals
pub mod Same
pub mod FloatArithmetic
pub mod FloatExact
pub mod RealLaws
pub mod RealExact
pub mod Negation
pub mod Parts
pub mod Commutes
pub mod SlabLaws
pub mod ComplexLaws
pub mod ComplexExact
pub mod Instances
pub mod ScalingLaws
pub mod WorkedNumbers

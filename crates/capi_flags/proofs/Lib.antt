-- What each function of the C interface has to show, over any number kind.
pub mod Laws

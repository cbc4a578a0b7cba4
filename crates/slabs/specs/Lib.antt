-- What a view shows of a slab, and the fold that replaces shown elements in place; over any number kind.
pub mod Elem
pub mod Update
pub mod Distinct
pub mod Run
pub mod Eight

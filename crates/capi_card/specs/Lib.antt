-- What a C call of a card does, with what it hands back.
pub mod Interface

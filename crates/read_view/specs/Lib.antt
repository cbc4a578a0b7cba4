-- What reading an element of a view finds.
pub mod Read

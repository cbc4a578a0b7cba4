-- Cards (document 02, request 1): what a card is, what reading and writing one answer and leave, and the scan by which the code reads.
pub mod Layout
pub mod Answers
pub mod Reading
pub mod Writing
pub mod Scanning

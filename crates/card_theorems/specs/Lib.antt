-- What holds of cards, and the worked points.
pub mod Cards
pub mod Table

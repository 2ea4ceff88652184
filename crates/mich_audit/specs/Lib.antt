pub mod Answers
pub mod Key
pub mod Pieces
pub mod Sums
pub mod Tallies
pub mod Told
pub mod View

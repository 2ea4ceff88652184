pub mod Answers
pub mod Arrows
pub mod Begun
pub mod Dips
pub mod Kept
pub mod Maps
pub mod View

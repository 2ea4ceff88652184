mod Counts
pub mod Each
mod Fronts
mod Gifts
mod Groups

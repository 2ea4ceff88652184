pub mod Pending
pub mod Scripts
pub mod cache

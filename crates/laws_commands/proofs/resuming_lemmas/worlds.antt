pub mod Relogged
pub mod Runs
pub mod Applied
pub mod Groups

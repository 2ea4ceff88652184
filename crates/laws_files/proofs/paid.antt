-- Paid courses stay paid.
pub mod Entries
pub mod Moves
pub mod Growing
pub mod Runs
pub mod Operations
pub mod Groups
pub mod Courses

pub mod accounts
pub mod lines
pub mod operations
pub mod runs

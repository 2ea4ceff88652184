-- Runs, operations and groups leave worlds and receipts that can be written.
pub mod Worlds
pub mod Runs
pub mod Applied
pub mod Operations
pub mod Groups

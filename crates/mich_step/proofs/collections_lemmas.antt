pub mod Counts
pub mod Entries
pub mod Members
pub mod Opened
pub mod Sizes
pub mod Steps
pub mod Updates
pub mod ForCallers

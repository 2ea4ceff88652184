pub mod Entries
pub mod Claims
pub mod Targets
pub mod ForCallers

pub mod Claims
pub mod Fields
pub mod Listing
pub mod Shorter
pub mod Stated
pub mod Wholes
pub mod ForCallers

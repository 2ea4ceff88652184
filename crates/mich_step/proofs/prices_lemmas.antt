pub mod Weighed
pub mod Sums
pub mod Cutting
pub mod Joining
pub mod Keys
pub mod ForCallers

pub mod Packed
pub mod ForCallers

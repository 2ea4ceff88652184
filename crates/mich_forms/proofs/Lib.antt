pub mod Joining
pub mod OneSpelling
pub mod ZeroEnded
pub mod ForCallers

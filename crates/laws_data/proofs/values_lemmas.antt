pub mod Again
pub mod Lawful
pub mod Orders
pub mod ForCallers

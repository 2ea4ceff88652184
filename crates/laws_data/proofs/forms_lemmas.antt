pub mod Places
pub mod ForCallers

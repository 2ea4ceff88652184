pub mod Fitting
pub mod Room
pub mod Waiting
pub mod ForCallers

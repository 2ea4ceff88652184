pub mod Places
pub mod Pushed
pub mod Sizes
pub mod Fit
pub mod Forms
pub mod Read
pub mod ForCallers

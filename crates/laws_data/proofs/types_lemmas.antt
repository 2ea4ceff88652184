pub mod Again
pub mod SameKinds
pub mod ForCallers

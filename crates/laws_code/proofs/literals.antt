-- Lemmas on literals, on lambdas, and on what APPLY makes of them.
pub mod Applied
pub mod Applies
pub mod Claims
pub mod Clean
pub mod Forms
pub mod Lambdas
pub mod Pushes
pub mod ForCallers

pub mod Same
pub mod Loops
pub mod Pieces
pub mod Written
pub mod Walks
pub mod Rest
pub mod Summing
pub mod ForCallers

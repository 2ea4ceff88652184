-- Lemmas on the tickets of values that agree with their types.
pub mod Alike
pub mod Amounts
pub mod Arguments
pub mod Kept
pub mod Literals
pub mod Nothing
pub mod Paths
pub mod Read
pub mod Returned
pub mod Rows
pub mod Same
pub mod Scripts
pub mod Views
pub mod ForCallers

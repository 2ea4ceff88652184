-- Lemmas on what holds of a stack while typed code runs.
pub mod Addresses
pub mod Amounts
pub mod Grow
pub mod Identities
pub mod Kept
pub mod Nothing
pub mod Paid
pub mod Parts
pub mod Wells
pub mod ForCallers

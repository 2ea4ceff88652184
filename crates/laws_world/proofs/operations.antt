-- Lemmas on the numbers and addresses of the operations that code issues.
pub mod Advances
pub mod AdvancingForms
pub mod AdvancingLevels
pub mod AdvancingStacks
pub mod NewContracts
pub mod Picks
pub mod ForCallers

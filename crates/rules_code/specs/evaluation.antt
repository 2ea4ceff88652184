-- Definitions alone: the evaluation of code, with its gas, its open blocks, the operations that it issues and its tickets.
pub mod Surroundings
pub mod Operations
pub mod Outcome
pub mod Shapes
pub mod Branches
pub mod Items
pub mod Loops
pub mod Calls
pub mod Contracts
pub mod Trying
pub mod Issuing
pub mod Given
pub mod Operating
pub mod Straight
pub mod Evaluation

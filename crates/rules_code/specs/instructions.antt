-- Definitions alone: the instructions that work straight on the stack, their overloads, their effect on its types and their faults.
pub mod Types
pub mod Same
pub mod Context
pub mod Straight
pub mod Change
pub mod StackChanges
pub mod DataChanges
pub mod NumberChanges
pub mod OtherChanges
pub mod Effect
pub mod Overloads
pub mod Arguments
pub mod Instructions
pub mod Rules
pub mod Forms
pub mod Control

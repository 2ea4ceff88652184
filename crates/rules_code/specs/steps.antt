-- Definitions alone: what each straight-line instruction does to the values of the stack, and what it costs.
pub mod Failure
pub mod Environment
pub mod Changes
pub mod Step
pub mod Stack
pub mod Sets
pub mod Collections
pub mod Numbers
pub mod Texts
pub mod Packing
pub mod Reading
pub mod TicketSteps
pub mod Steps
pub mod Costs

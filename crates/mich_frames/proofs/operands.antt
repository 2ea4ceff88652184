-- Lemmas on what instructions ask of the stacks of typed code that runs.
pub mod Suiting
pub mod Rows
pub mod Tickets
pub mod ForCallers

-- Lemmas on the values that a run holds: what a node leaves of them, and what collections give and take.
pub mod Nodes
pub mod Values
pub mod Collections
pub mod ForCallers

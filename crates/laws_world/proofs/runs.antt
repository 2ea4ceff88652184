-- Lemmas on runs of contracts in good worlds.
pub mod Codes
pub mod Moves
pub mod RunStacks
pub mod Runs
pub mod Scripts
pub mod Steps
pub mod Surrounded
pub mod Unissued
pub mod Waiting
pub mod Worlds
pub mod ForCallers

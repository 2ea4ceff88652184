pub mod Integers
pub mod Levels
pub mod Loops
pub mod PieceLaws
pub mod Prefixes
pub mod Scans
pub mod Writings
pub mod ForCallers

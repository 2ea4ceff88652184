pub mod Primitives
pub mod Tree
pub mod Limits

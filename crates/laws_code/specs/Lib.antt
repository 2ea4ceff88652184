pub mod evaluation
pub mod stacks
pub mod safety

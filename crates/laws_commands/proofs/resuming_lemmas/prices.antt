pub mod Plain
pub mod Instructions
pub mod Evaluation

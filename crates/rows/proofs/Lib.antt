pub mod evaluation
pub mod typing

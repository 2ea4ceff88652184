pub mod instructions
pub mod steps
pub mod typing
pub mod evaluation
pub mod certificates

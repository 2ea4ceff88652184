pub mod Names
pub mod ErasedCode
pub mod Shown
pub mod bodies
mod Held

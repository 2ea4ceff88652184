pub mod Code
pub mod View
pub mod Plain
pub mod Typed
pub mod Scripts
pub mod Erased
pub mod Body

pub mod Body
pub mod Unused

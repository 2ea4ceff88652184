pub mod Values
pub mod Sighted
pub mod Stepped

-- Values that are written, how they are read and printed, and what steps make of them.
pub mod Bytes
pub mod Values
pub mod Levels
pub mod Literals
pub mod Names
pub mod Spelled
pub mod Decoded
pub mod Fitting
pub mod Steps
pub mod Mints

pub mod Waiting
pub mod Trees
pub mod Turns
pub mod Settled
pub mod course

pub mod View
pub mod Changes
pub mod Ops
pub mod Steps

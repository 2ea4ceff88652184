pub mod Pending
pub mod Unpacked

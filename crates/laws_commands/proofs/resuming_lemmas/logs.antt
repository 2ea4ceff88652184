pub mod Inserted
pub mod Sums
pub mod Told

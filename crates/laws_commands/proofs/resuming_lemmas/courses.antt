pub mod Alike
pub mod Heads
pub mod Prices
pub mod Loaded

pub mod Kinds
pub mod Prices
pub mod Tables

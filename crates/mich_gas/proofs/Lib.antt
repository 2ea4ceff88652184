pub mod Listings
pub mod Named
pub mod Tables

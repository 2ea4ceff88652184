pub mod seen
pub mod big_maps
pub mod hashes

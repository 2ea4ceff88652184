pub mod seen
pub mod big_maps_lemmas
pub mod hashes_lemmas

pub mod forms
pub mod numbers
pub mod types
pub mod values
pub mod big_maps
pub mod gas

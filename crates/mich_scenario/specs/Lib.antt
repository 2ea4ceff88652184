pub mod View
pub mod Fronts

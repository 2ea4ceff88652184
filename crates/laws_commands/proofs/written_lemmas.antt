pub mod values
pub mod evaluation
pub mod locations
pub mod worlds
pub mod files
pub mod Agreement

pub mod forms
pub mod types
pub mod values
pub mod binary

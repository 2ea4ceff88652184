pub mod Ends
pub mod Given
pub mod Keys
pub mod Views

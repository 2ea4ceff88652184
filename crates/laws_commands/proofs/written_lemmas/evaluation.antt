-- Code that can be written leaves what can be written.
pub mod Issuers
pub mod Stands
pub mod Safe
pub mod Branches
pub mod Items
pub mod Calls
pub mod Scripts
pub mod Tags
pub mod Given
pub mod Views
pub mod Minted
pub mod Operating
pub mod Evaluation

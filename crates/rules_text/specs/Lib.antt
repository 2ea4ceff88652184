pub mod nodes
pub mod binary
pub mod hash
pub mod streams
pub mod text

pub mod arguments
pub mod unpacking

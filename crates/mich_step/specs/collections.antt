pub mod Keys
pub mod Seen
pub mod Shapes
pub mod Sizes

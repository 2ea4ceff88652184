pub mod Kind
pub mod Attributes
pub mod Reading
pub mod Printing
pub mod Entrypoints

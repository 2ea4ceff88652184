-- The statements of a file, and which nodes are statements: definitions alone.
pub mod Statements

-- A statement of a file has fewer than 2^32 nodes.
pub mod Tokens
pub mod Nodes
pub mod Statements

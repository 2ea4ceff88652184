-- Statements, files, and the nodes that are printed.
pub mod Statements
pub mod Files
pub mod Printed

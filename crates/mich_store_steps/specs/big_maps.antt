pub mod Operands
pub mod Given

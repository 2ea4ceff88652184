-- The rules of numbers: limits, integer arithmetic, two's complement and amounts of mutez. They stand in specs/.
pub mod Bits
pub mod Bytes
pub mod Integers
pub mod Limits
pub mod Mutez

-- Definitions alone: the hash function BLAKE2b, without a key.
pub mod Blake2b

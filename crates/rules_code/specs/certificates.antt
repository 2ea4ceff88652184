-- Definitions alone: the derivation of a script's typing, how it is written beside the script, and when such a node is valid.
pub mod Blocks
pub mod Derivation
pub mod Certificates

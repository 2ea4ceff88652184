-- Lemmas on runs of contracts in good worlds.
pub mod Going
pub mod RunEnds
pub mod Worlds

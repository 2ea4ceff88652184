-- Definitions alone: how keys, key hashes, signatures, chain ids, addresses and entrypoints are spelled in bytes.
pub mod Spelling

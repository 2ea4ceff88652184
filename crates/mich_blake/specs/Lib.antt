pub mod Hasher

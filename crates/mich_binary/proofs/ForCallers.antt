-- What the proofs of the crates above may cite of this crate.
pub use Rattle.mich_binary.proofs.Levels.{count_is}
pub use Rattle.mich_binary.proofs.Scans.{none_found, onward, scan_append}
pub use Rattle.mich_binary.proofs.Writings.{joined_is, length_field, spaced}

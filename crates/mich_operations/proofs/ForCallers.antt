-- What the proofs of the crates above may cite of this crate.
pub use Rattle.mich_operations.proofs.Hosting.{hosting_fee, stands_same}

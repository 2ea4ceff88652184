-- What the proofs of the crates above may cite of this crate.
pub use Rattle.mich_saved.proofs.Links.{keeps}
pub use Rattle.mich_saved.proofs.Passes.{are_read}

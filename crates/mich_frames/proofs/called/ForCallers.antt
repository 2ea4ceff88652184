-- What the proofs of the crates above may cite of this crate.
pub use Rattle.mich_frames.proofs.called.Beginning.{call_opens}

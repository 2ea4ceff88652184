-- What the proofs of the crates above may cite of this crate.
pub use Rattle.mich_step.proofs.collections_lemmas.Opened.{map_seen}

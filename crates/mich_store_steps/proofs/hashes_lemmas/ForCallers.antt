-- What the proofs of the crates above may cite of this crate.
pub use Rattle.mich_store_steps.proofs.hashes_lemmas.Packed.{bytes_seen, text_seen, with_top}

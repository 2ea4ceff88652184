-- What the proofs of the crates above may cite of this crate.
pub use Rattle.mich_step.proofs.prices_lemmas.Cutting.{bytes_seen}
pub use Rattle.mich_step.proofs.prices_lemmas.Joining.{list_seen}
pub use Rattle.mich_step.proofs.prices_lemmas.Weighed.{found_weighs}

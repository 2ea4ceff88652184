-- What the proofs of the crates above may cite of this crate.
pub use Rattle.mich_step.proofs.Ledgers.{tells_equal, tells_same}
pub use Rattle.mich_step.proofs.Showing.{tickets_same}
pub use Rattle.mich_step.proofs.Suiting.{suits_same}
pub use Rattle.mich_step.proofs.Taken.{collection_part, part_ready}

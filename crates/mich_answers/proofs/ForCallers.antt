-- What the proofs of the crates above may cite of this crate.
pub use Rattle.mich_answers.proofs.Shorter.{further}
pub use Rattle.mich_answers.proofs.Stated.{statements-more}

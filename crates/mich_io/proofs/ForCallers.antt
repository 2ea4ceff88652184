-- What the proofs of the crates above may cite of this crate.
pub use Rattle.mich_io.proofs.Fronts.{AppendsFront-more}
pub use Rattle.mich_io.proofs.Handed.{all_front, all_nothing, all_then, front_longer, front_nothing, front_then}

-- What the proofs of the crates above may cite of this crate.
pub use Rattle.mich_base.proofs.Faithful.{kind_faithful}

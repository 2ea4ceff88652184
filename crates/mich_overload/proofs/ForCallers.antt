-- What the proofs of the crates above may cite of this crate.
pub use Rattle.mich_overload.proofs.Tops.{kinds_below, length_kinds}

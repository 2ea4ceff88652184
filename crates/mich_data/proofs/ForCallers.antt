-- What the proofs of the crates above may cite of this crate.
pub use Rattle.mich_data.proofs.Places.{left_at, left_end, sizes_at}

-- What the proofs of the crates above may cite of this crate.
pub use Rattle.laws_data.proofs.binary_lemmas.Integers.{more_groups, one_group}
pub use Rattle.laws_data.proofs.binary_lemmas.Sizes.{decoded_half, half_as_many}

-- What the proofs of the crates above may cite of this crate.
pub use Rattle.laws_typing.proofs.packing_lemmas.Packables.{checked_is_packable, fitting}

-- What the proofs of the crates above may cite of this crate.
pub use Rattle.laws_data.proofs.types_lemmas.Again.{is_type, read_again, read_well, within}
pub use Rattle.laws_data.proofs.types_lemmas.SameKinds.{same_kind_refl, same_kind_true, same_kinds_refl, same_kinds_true}

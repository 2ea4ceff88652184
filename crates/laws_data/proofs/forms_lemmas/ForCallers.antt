-- What the proofs of the crates above may cite of this crate.
pub use Rattle.laws_data.proofs.forms_lemmas.Places
pub use Rattle.laws_data.proofs.forms_lemmas.Places.{contract_is, contract_parts, implicit_is, place_address, place_length}

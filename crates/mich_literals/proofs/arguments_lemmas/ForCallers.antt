-- What the proofs of the crates above may cite of this crate.
pub use Rattle.mich_literals.proofs.arguments_lemmas.Claims.{account_place, account_takes, contract_place_is, default_so, other_so}
pub use Rattle.mich_literals.proofs.arguments_lemmas.Entries.{entry_found, storage_read}
pub use Rattle.mich_literals.proofs.arguments_lemmas.Targets.{nameless, nobody, target, target_met}

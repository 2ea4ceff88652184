-- What the proofs of the crates above may cite of this crate.
pub use Rattle.laws_code.proofs.safety_lemmas.Creates.{creates}
pub use Rattle.laws_code.proofs.safety_lemmas.Law.{code_leaves_well, never_stuck, parts_are_safe}
pub use Rattle.laws_code.proofs.safety_lemmas.Rows.{rows_keep}
pub use Rattle.laws_code.proofs.safety_lemmas.Selves.{selves}
pub use Rattle.laws_code.proofs.safety_lemmas.Small.{decoded_are_small}
pub use Rattle.laws_code.proofs.safety_lemmas.Views.{Seeing, SeesIf, good_in_view, sees, views_keep}

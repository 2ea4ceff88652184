-- What the proofs of the crates above may cite of this crate.
pub use Rattle.laws_code.proofs.steps.Arithmetic.{amount_low, on_natural}
pub use Rattle.laws_code.proofs.steps.CollectionRows.{collection_keeps}
pub use Rattle.laws_code.proofs.steps.EnvironmentRows.{environment_keeps}
pub use Rattle.laws_code.proofs.steps.HashRows.{DecodedAreSmall, HashCarries, hash_keeps}
pub use Rattle.laws_code.proofs.steps.NumberRows.{logic_keeps, number_keeps}
pub use Rattle.laws_code.proofs.steps.Steps.{RowStep, StepFits, finish_keeps, quiet_burns, quiet_none}
pub use Rattle.laws_code.proofs.steps.TextRows.{text_keeps}
pub use Rattle.laws_code.proofs.steps.TicketRows.{TicketFits, ticket_keeps}

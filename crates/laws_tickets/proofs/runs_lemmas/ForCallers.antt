-- What the proofs of the crates above may cite of this crate.
pub use Rattle.laws_tickets.proofs.runs_lemmas.Linear.{runs_keep}
pub use Rattle.laws_tickets.proofs.runs_lemmas.Nodes.{totals}

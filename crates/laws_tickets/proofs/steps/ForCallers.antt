-- What the proofs of the crates above may cite of this crate.
pub use Rattle.laws_tickets.proofs.steps.Straights.{step_keeps}

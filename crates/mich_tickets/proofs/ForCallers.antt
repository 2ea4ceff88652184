-- What the proofs of the crates above may cite of this crate.
pub use Rattle.mich_tickets.proofs.Alike.{alike}
pub use Rattle.mich_tickets.proofs.Finding.{found_changed, found_close, found_inserted}
pub use Rattle.mich_tickets.proofs.Readiness.{ready_first, ready_next}

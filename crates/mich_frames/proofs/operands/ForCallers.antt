-- What the proofs of the crates above may cite of this crate.
pub use Rattle.mich_frames.proofs.operands.Rows.{row_positive, row_suits}
pub use Rattle.mich_frames.proofs.operands.Tickets.{issued_positive, tickets_handed}

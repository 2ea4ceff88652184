-- What the proofs of the crates above may cite of this crate.
pub use Rattle.mich_outline.proofs.Inside.{ViewsSmall, bodies_small}
pub use Rattle.mich_outline.proofs.Moves.{script_moves}
pub use Rattle.mich_outline.proofs.Shifts.{argument_from, reading_from, type_at_from}

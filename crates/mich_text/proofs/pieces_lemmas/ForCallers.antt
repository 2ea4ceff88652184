-- What the proofs of the crates above may cite of this crate.
pub use Rattle.mich_text.proofs.pieces_lemmas.Files.{fault_there, no_end_there, node_there}
pub use Rattle.mich_text.proofs.pieces_lemmas.Holding.{limit_le}
pub use Rattle.mich_text.proofs.pieces_lemmas.Pieces.{pieces_tell}
pub use Rattle.mich_text.proofs.pieces_lemmas.Stays.{closed_stays}
pub use Rattle.mich_text.proofs.pieces_lemmas.Tried.{closed_cut}

-- What the proofs of the crates above may cite of this crate.
pub use Rattle.laws_world.proofs.lines_lemmas.Aligned.{are_alike}
pub use Rattle.laws_world.proofs.lines_lemmas.Exact.{all_exact}
pub use Rattle.laws_world.proofs.lines_lemmas.Minted.{amount_is_told, told_in_order}

-- What the proofs of the crates above may cite of this crate.
pub use Rattle.laws_code.proofs.evaluation_lemmas.Levels.{eval_is}

-- What the proofs of the crates above may cite of this crate.
pub use Rattle.laws_code.proofs.literals.Applied.{argument_is, arrow_is, captured_again, exec_name, pair_name, push_typed, rec_name, swap_name}
pub use Rattle.laws_code.proofs.literals.Applies.{applies}
pub use Rattle.laws_code.proofs.literals.Claims.{pushed_claims}
pub use Rattle.laws_code.proofs.literals.Lambdas.{lambda_recs, lambdas}
pub use Rattle.laws_code.proofs.literals.Pushes.{pushes}

-- What the proofs of the crates above may cite of this crate.
pub use Rattle.mich_world.proofs.preconditions_lemmas.Fitting.{commits_fit, credits_fit, installs_fit}
pub use Rattle.mich_world.proofs.preconditions_lemmas.Room.{positives}
pub use Rattle.mich_world.proofs.preconditions_lemmas.Waiting.{gifts_may_run, originations_may_run, plain_values_may_run, transfers_may_run}

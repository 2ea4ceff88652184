-- What the proofs of the crates above may cite of this crate.
pub use Rattle.laws_commands.proofs.resuming_lemmas.Together.{courses_go_on, one_ending, resuming_goes_on, sound_states_go_on}

-- Lemmas on what holds of a stack while typed code runs.
pub mod Sound

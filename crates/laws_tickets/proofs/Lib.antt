pub mod totals
pub mod steps
pub mod runs_lemmas
pub mod held

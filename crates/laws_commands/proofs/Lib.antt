pub mod common
pub mod audits_lemmas
pub mod written_lemmas
pub mod reached_lemmas
pub mod resuming_lemmas

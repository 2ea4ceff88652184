pub mod accounts
pub mod lines_lemmas
pub mod operations
pub mod runs
pub mod groups_lemmas

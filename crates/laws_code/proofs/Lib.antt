pub mod evaluation_lemmas
pub mod stacks
pub mod typed
pub mod control
pub mod literals
pub mod steps
pub mod safety_lemmas

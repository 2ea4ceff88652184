pub mod tokens
pub mod grammar
pub mod readings
pub mod limits
pub mod printed
pub mod ForCallers
pub mod pieces_lemmas

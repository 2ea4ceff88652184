-- Lemmas on typed code: what typing says of its nodes.
pub mod Sayings
pub mod Said
pub mod Leading
pub mod ForCallers

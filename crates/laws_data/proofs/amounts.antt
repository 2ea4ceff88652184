-- Lemmas on sums of the amounts of tickets, and on maps as lists of entries.
pub mod Maps
pub mod Sums
pub mod ForCallers

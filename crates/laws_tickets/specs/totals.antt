-- Lemmas on the tickets of values that agree with their types.
pub mod Agreement
pub mod Totals

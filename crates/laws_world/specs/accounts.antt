-- Lemmas on sums over accounts and contracts, and on holdings, texts of types and environments.
pub mod Texts

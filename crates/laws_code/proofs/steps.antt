-- Lemmas on instructions without bodies: what they leave fits its types.
pub mod Arithmetic
pub mod CollectionRows
pub mod EnvironmentRows
pub mod HashRows
pub mod Lengths
pub mod NumberBytes
pub mod NumberRows
pub mod Ranges
pub mod SetRows
pub mod Steps
pub mod TextRows
pub mod TicketRows
pub mod ForCallers

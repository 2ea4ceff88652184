-- Lemmas on instructions without bodies: they keep the tickets of each identity.
pub mod CollectionSteps
pub mod MapSteps
pub mod NumberKinds
pub mod NumberSteps
pub mod PairSteps
pub mod StackSteps
pub mod Straights
pub mod TextSteps
pub mod TicketSteps
pub mod ForCallers

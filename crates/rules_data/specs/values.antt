-- Definitions alone: values, their order, their weight, the tickets in them, maps as lists of entries, and literals.
pub mod Val
pub mod Order
pub mod Weight
pub mod Tickets
pub mod Tables
pub mod Literals
pub mod Canonical
pub mod Forms

-- Definitions alone: what changes make of the entries of a big map.
pub mod Changes
